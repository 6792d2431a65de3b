use Rattle.std.proofs.Common.{◌∙◌}
use Rattle.sbpf_exec.proofs.PageLaws.{byte_of_page}
use Rattle.sbpf_exec.proofs.pages.byte_after.Goals as goal

pub returns : goal.returns
returns c = c.byte.ensures.value ∙ byte_of_page c.args.pages.now c.args.page c.args.offset _ c.requires.whole c.requires.room c.index-pages-page.is
