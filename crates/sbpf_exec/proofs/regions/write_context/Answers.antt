use Rattle.std.proofs.Common.{refl}
use Rattle.std.specs.Int.{w64, to_le_bytes}
use Rattle.sbpf_exec.proofs.Puts.{six_words}
use Rattle.sbpf_exec.proofs.regions.write_context.Goals as goal

pub returns : goal.returns
returns c =
    six_words c.args.context.now c.put_number.new.b c.put_number-2.new.b c.put_number-3.new.b c.put_number-4.new.b c.put_number-5.new.b c.put_number-6.new.b
    (to_le_bytes w64 0x200000000) (to_le_bytes w64 c.args.in_len) (to_le_bytes w64 0x300000000) (to_le_bytes w64 c.args.out_len) (to_le_bytes w64 0x400000000) (to_le_bytes w64 c.args.param_len)
    c.requires refl refl refl refl refl refl c.put_number.ensures c.put_number-2.ensures c.put_number-3.ensures c.put_number-4.ensures c.put_number-5.ensures c.put_number-6.ensures
