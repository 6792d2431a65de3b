use Rattle.std.proofs.Common.{ap, ◌∙◌}
use Rattle.image_format.specs.Encoding.{header_part, fill}
use Rattle.image_format.proofs.Areas.{put_front}
use Rattle.image_format.proofs.pages.header_page.Goals as goal

pub returns : goal.returns
unfolding header_part
returns c = c.patch.ensures.value ∙ put_front 4096 c.clear_from.new.self c.header_bytes-header.result c.clear_from.ensures.value ∙ ap (fill 4096) c.header_bytes-header.ensures
