use Rattle.std.proofs.Common.{◌≡◌, false, arith}
use Rattle.edge_io.specs.declared.room.WriteErr.TheVariants.{NoMemory, Failed}
use Rattle.edge_io.specs.Memory.{write_fails}
use Rattle.edge_io.proofs.Answered.{another_error}
use Rattle.edge_io.proofs.mem_room.MemRoomRoom.write.Goals as goal

pub returns-in_err-put_entry-clause-failed : goal.returns-in_err-put_entry-clause-failed
returns-in_err-put_entry-clause-failed c =
    another_error c.from_residual.result NoMemory Failed (write_fails c.args.self.now) c.from_residual.ensures.1 (λ e. (cc)) (grind arith)

pub returns-clause-failed : goal.returns-clause-failed
returns-clause-failed c =
    let passes : write_fails c.args.self.now ≡ false = grind arith in
    ((λ is. (cc)), (λ fails. (cc)))
