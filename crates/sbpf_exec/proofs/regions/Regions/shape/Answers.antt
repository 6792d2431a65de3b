use Rattle.std.proofs.Common.{ap, sym, length}
use Rattle.sbpf_exec.proofs.Shaped.{shaped_is, part_len}
use Rattle.sbpf_exec.proofs.regions.Regions.shape.Goals as goal

pub returns-clause-regions : goal.returns-clause-regions
returns-clause-regions c =
    shaped_is c.write_context.new.context _ _ c.args.self.now.param c.clear_from.new.self _ _ c.args.in_len c.args.out_len (length c.as_slice-param_len.result.now)
    c.write_context.ensures c.place.ensures.bytes c.place-2.ensures.bytes
    (part_len c.place.new.region _ c.args.in_len c.place.ensures.ready c.place.ensures.bytes)
    (part_len c.place-2.new.region _ c.args.out_len c.place-2.ensures.ready c.place-2.ensures.bytes)
    (ap length (sym c.as_slice-param_len.ensures)) c.clear_from.ensures.value
