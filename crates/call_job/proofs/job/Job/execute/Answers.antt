use Rattle.std.proofs.Common.{arith}
use Rattle.call_job.proofs.Executed.{readl_asks, writel_asks, param_short, readl_ready, writel_ready, lambda_only, readl_gives, writel_gives}
use Rattle.call_job.proofs.job.Job.execute.Goals as goal

pub run_readl-requires : goal.run_readl-requires
run_readl-requires c =
    let a = readl_asks c.args.self.now c.in-Readl.file c.in-Readl.function c.in-Readl.off c.in-Readl.len c.in-Readl.fuel c.in-Readl.cap c.in-Readl.param c.in-Readl.is c.requires.ready in
    let p = a.pages in
    let f = a.flat in
    record { there = a.there; param = param_short c.args.self.now c.in-Readl.off c.args.self.now.readable c.in-Readl.param a; fits = λ l. let k = a.fits l in omega arith; output = omega arith }

pub run_writel-requires : goal.run_writel-requires
run_writel-requires c =
    let b = writel_asks c.args.self.now c.in-Writel.file c.in-Writel.function c.in-Writel.off c.in-Writel.len c.in-Writel.fuel c.in-Writel.param c.in-Writel.input c.in-Writel.is c.requires.ready in
    let a = b.0 in
    let n = b.1 in
    let f = a.flat in
    record { there = a.there; param = param_short c.args.self.now c.in-Writel.off c.in-Writel.len c.in-Writel.param a; pages = a.pages; second = b.2; fits = a.fits; short = omega arith; input = omega arith }

pub unreachable-requires : goal.unreachable-requires
unreachable-requires c = lambda_only c.args.self.now.request.call c.requires.lambda (λ file function off n fuel cap param e. c.in_default.not-Readl _ _ _ _ _ _ _ e) (λ file function off n fuel param input e. c.in_default.not-Writel _ _ _ _ _ _ _ e)

pub unreachable-unreachable : goal.unreachable-unreachable
unreachable-unreachable c = c.unreachable.type_inv

pub returns-in-Readl : goal.returns-in-Readl
returns-in-Readl c =
    let job = c.args.self.now in
    let a = readl_asks job c.in-Readl.file c.in-Readl.function c.in-Readl.off c.in-Readl.len c.in-Readl.fuel c.in-Readl.cap c.in-Readl.param c.in-Readl.is c.requires.ready in
    let e = readl_gives job c.run_readl.new.self c.in-Readl.file c.in-Readl.function c.in-Readl.off c.in-Readl.len c.in-Readl.fuel c.in-Readl.cap c.in-Readl.param c.in-Readl.is c.run_readl.ensures.same c.requires.fresh c.requires.ready (c.run_readl.ensures.ran c.in-Readl.param a.has) in
    record { ran = e.0; same = c.run_readl.ensures.same; ready = readl_ready job c.run_readl.new.self c.in-Readl.file c.in-Readl.function c.in-Readl.off c.in-Readl.len c.in-Readl.fuel c.in-Readl.cap c.in-Readl.param c.in-Readl.is c.run_readl.ensures.same c.run_readl.ensures.long c.run_readl.ensures.param e.1 c.requires.ready }

pub returns-in-Writel : goal.returns-in-Writel
returns-in-Writel c =
    let job = c.args.self.now in
    let b = writel_asks job c.in-Writel.file c.in-Writel.function c.in-Writel.off c.in-Writel.len c.in-Writel.fuel c.in-Writel.param c.in-Writel.input c.in-Writel.is c.requires.ready in
    record {
      ran = writel_gives job c.run_writel.new.self c.in-Writel.file c.in-Writel.function c.in-Writel.off c.in-Writel.len c.in-Writel.fuel c.in-Writel.param c.in-Writel.input c.in-Writel.is c.run_writel.ensures.same c.requires.ready (c.run_writel.ensures.ran c.in-Writel.param b.0.has);
      same = c.run_writel.ensures.same;
      ready = writel_ready job c.run_writel.new.self c.in-Writel.file c.in-Writel.function c.in-Writel.off c.in-Writel.len c.in-Writel.fuel c.in-Writel.param c.in-Writel.input c.in-Writel.is c.run_writel.ensures.same c.run_writel.ensures.input c.run_writel.ensures.many c.run_writel.ensures.param c.run_writel.ensures.wrote c.requires.ready;
    }
