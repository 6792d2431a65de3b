use Rattle.name_table.proofs.Places.{is_there, is_other, is_past}
use Rattle.name_table.proofs.files.at_id.Goals as goal

pub returns-then-i-files : goal.returns-then-i-files
returns-then-i-files c = is_past c.args.id c.args.files.now c.lower-i.result c.requires c.lower-i.ensures.value c.if-i-files.true

pub returns-then-file-id : goal.returns-then-file-id
returns-then-file-id c = is_other c.args.id c.args.files.now c.lower-i.result c.index-files-i.result c.requires c.lower-i.ensures.value c.if-i-files.false c.index-files-i.is c.if-file-id.true

pub returns : goal.returns
returns c = is_there c.args.id c.args.files.now c.lower-i.result c.index-files-i.result c.requires c.lower-i.ensures.value c.if-i-files.false c.index-files-i.is c.if-file-id.false
