use Rattle.sbpf_exec.proofs.PageLaws.{patched_page}
use Rattle.sbpf_exec.proofs.pages.put_in_page.Goals as goal

pub returns-clause-value : goal.returns-clause-value
returns-clause-value c = (patched_page c.args.pages.now c.args.page c.args.offset c.args.bytes.now c.index-pages-page.result c.patch.new.self c.requires.whole c.requires.page c.requires.fits c.patch.ensures.value).value

pub returns-clause-whole : goal.returns-clause-whole
returns-clause-whole c = (patched_page c.args.pages.now c.args.page c.args.offset c.args.bytes.now c.index-pages-page.result c.patch.new.self c.requires.whole c.requires.page c.requires.fits c.patch.ensures.value).whole
