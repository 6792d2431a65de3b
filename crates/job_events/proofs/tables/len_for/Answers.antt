use Rattle.job_events.proofs.Found.{short_file}
use Rattle.job_events.proofs.tables.len_for.Goals as goal

pub returns-in-Some-clause-most : goal.returns-in-Some-clause-most
returns-in-Some-clause-most c = short_file c.args.names.now.next c.args.names.now.files c.args.call.now c.file_for.result c.in-Some.file c.len-files.ensures.sound.each c.file_for.ensures c.in-Some.is
