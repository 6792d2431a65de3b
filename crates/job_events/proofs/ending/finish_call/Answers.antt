use Rattle.std.proofs.Common.{◌≤◌, ℕ, List, length, refl, sym, ap, subst, ◌∙◌}
use Rattle.plain_files.specs.declared.calls.Request.{Request}
use Rattle.core_state.specs.State.{Reach}
use Rattle.core_state.specs.Reach.{is_sync}
use Rattle.system_state.specs.Cores.{core_of, lanes_of}
use Rattle.system_state.specs.declared.lanes.Lane.{Lane}
use Rattle.job_events.proofs.Ends.{mark_ends, sync_ends, data_ends, len_told, data_told, run_told}
use Rattle.job_events.proofs.InUse.{in_use_is}
use Rattle.job_events.proofs.ending.finish_call.Goals as goal

pub returns-then-has_mark-clause-ends : goal.returns-then-has_mark-clause-ends
returns-then-has_mark-clause-ends g c =
    let mark = sym (c.has_mark.ensures ∙ ap (λ (ls : List Lane). (lanes_of ls c.args.lane).mark) c.deref.ensures.value) ∙ c.if-has_mark.true in
    mark_ends (core_of g.D.Die.seen c.args.state.now) c.args.lane c.args.job.now c.requires.coherent c.requires.ends c.replied.result mark c.replied.ensures

pub returns-then-is_sync-clause-ends : goal.returns-then-is_sync-clause-ends
returns-then-is_sync-clause-ends g c =
    let e = c.requires.ends in
    let mark = sym (c.has_mark.ensures ∙ ap (λ (ls : List Lane). (lanes_of ls c.args.lane).mark) c.deref.ensures.value) ∙ c.if-has_mark.false in
    let sync = ap (λ (q : Request). is_sync q.call) (sym e.suits.request) ∙ (sym c.is_sync.ensures ∙ c.if-is_sync.true) in
    sync_ends (core_of g.D.Die.seen c.args.state.now) c.args.lane c.args.job.now c.requires.coherent c.requires.ends mark c.replied-then-is_sync.result sync c.replied-then-is_sync.ensures

pub finish-requires : goal.finish-requires
finish-requires g c =
    let e = c.requires.ends in
    let mark = sym (c.has_mark.ensures ∙ ap (λ (ls : List Lane). (lanes_of ls c.args.lane).mark) c.deref.ensures.value) ∙ c.if-has_mark.false in
    record {
      ready = e.suits.ready;
      «data» = data_told (core_of g.D.Die.seen c.args.state.now) c.args.lane c.args.job.now c.requires.coherent e (sym c.is_sync.ensures ∙ c.if-is_sync.false);
      ran = run_told (core_of g.D.Die.seen c.args.state.now) c.args.lane c.args.job.now c.requires.coherent e mark;
      len = c.len_for-len.ensures.most;
      in_use = c.in_use-pages.ensures.most;
    }

pub returns : goal.returns
returns g c =
    let core = core_of g.D.Die.seen c.args.state.now in
    let e = c.requires.ends in
    let r = c.finish.ensures in
    let mark = sym (c.has_mark.ensures ∙ ap (λ (ls : List Lane). (lanes_of ls c.args.lane).mark) c.deref.ensures.value) ∙ c.if-has_mark.false in
    let len = len_told c.args.state.now.meta.names.files core.names e.call c.args.job.now c.len_for-len.result refl e.suits.request c.len_for-len.ensures.value in
    let used = in_use_is g.D.Die.seen c.args.state.now c.in_use-pages.result c.requires.coherent c.requires.tables.blocks c.in_use-pages.ensures.sound c.in_use-pages.ensures.value c.in_use-pages.ensures.rest in
    let many = subst (λ (n : ℕ). n ≤ length c.finish.new.self.pages.items) (ap (λ (k : Reach). k.pages) e.suits.reach) r.many in
    record {
      ends = data_ends core c.args.lane c.args.job.now c.requires.coherent e mark c.finish.result c.finish.new.self.pages.items
          (r.ends core c.args.lane e.call c.requires.coherent e.flies (e.all mark) e.suits (e.ran c.requires.coherent mark) len used refl) many (λ l. r.used core e.call e.suits.request l (e.ran c.requires.coherent mark l));
      request = r.request;
    }
