use Rattle.std.proofs.Common.{◌≡◌, ◌+◌, ◌*◌, ◌<◌, ◌≤◌, ◌/◌, ◌%◌, ◌∙◌, ap, arith, length}
use Rattle.std.specs.List.{concat}
use Rattle.sbpf_insn.specs.Machine.{number_at, size_len}
use Rattle.sbpf_exec.proofs.PageLaws.{number_in_page, size_some}
use Rattle.sbpf_exec.proofs.pages.paged_number.Goals as goal

pub returns-then-offset-size_len-le4096 : goal.returns-then-offset-size_len-le4096
returns-then-offset-size_len-le4096 c =
    let inner = c.args.start % 4096 + c.args.at in
    let k = c.args.start / 4096 + inner / 4096 in
    let j = inner % 4096 in
    let same : 4096 * k + j ≡ c.args.start + c.args.at = omega arith in
    let fits : j + size_len c.args.size ≤ 4096 = omega (arith, c.size_len.ensures) in
    let lt : k < length c.args.pages.now = omega (arith, c.requires.room, size_some c.args.size) in
    c.page_number.ensures.value ∙ number_in_page c.args.size c.args.pages.now k j c.index-pages-page.result c.requires.whole lt fits c.index-pages-page.is ∙ ap (number_at c.args.size (concat c.args.pages.now)) same
