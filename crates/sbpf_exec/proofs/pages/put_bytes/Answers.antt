use Rattle.std.proofs.Common.{◌≡◌, ◌+◌, ◌*◌, arith, length}
use Rattle.sbpf_exec.proofs.Puts.{put_twice}
use Rattle.sbpf_exec.proofs.pages.put_bytes.Goals as goal

pub returns-else-bytes-room-clause-value : goal.returns-else-bytes-room-clause-value
returns-else-bytes-room-clause-value c =
    let at : 4096 * (c.args.page + 1) + 0 ≡ 4096 * c.args.page + c.args.offset + length c.split_at.result.0.now = omega (arith, c.split_at.ensures.front_len) in
    put_twice _ _ _ c.args.bytes.now c.split_at.result.0.now c.split_at.result.1.now _ _ c.put_in_page-else-bytes-room.ensures.value c.put_in_page-else-bytes-room-2.ensures.value at c.split_at.ensures.by_index.0
