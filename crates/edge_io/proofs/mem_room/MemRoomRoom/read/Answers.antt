use Rattle.std.proofs.Common.{◌≡◌, false, arith}
use Rattle.edge_io.specs.declared.room.ReadErr.TheVariants.{NoMemory, Failed}
use Rattle.edge_io.specs.Memory.{read_fails}
use Rattle.edge_io.proofs.Answered.{another_error}
use Rattle.edge_io.proofs.mem_room.MemRoomRoom.read.Goals as goal

pub returns-in_err-extend_from_slice-clause-failed : goal.returns-in_err-extend_from_slice-clause-failed
returns-in_err-extend_from_slice-clause-failed c =
    another_error c.from_residual.result NoMemory Failed (read_fails c.args.self.now c.args.name.now) c.from_residual.ensures.1 (λ e. (cc)) (grind arith)

pub returns-clause-failed : goal.returns-clause-failed
returns-clause-failed c =
    let passes : read_fails c.args.self.now c.args.name.now ≡ false = grind arith in
    ((λ is. (cc)), (λ fails. (cc)))
