use Rattle.std.proofs.Common.{◌≡◌, ℕ, List, subst, string_bytes}
use Rattle.std.specs.Prelude.{is_some}
use Rattle.core_state.specs.History.{calls_of}
use Rattle.stack_top.specs.Acts.{name_of}
use Rattle.stack_top.proofs.AtOnce.{allowed_at_once, logs_at_once, text_at_once, crew_ended}
use Rattle.stack_top.proofs.Told.{asks_image}
use Rattle.stack_top.proofs.threads.ran_at_once.Goals as goal

pub returns-in-Err : goal.returns-in-Err
returns-in-Err g c =
    rw c.crew_refusal.ensures
    (
    crew_ended c.args.image.drive c.args.image.meta c.args.image.pages.items c.args.script.now c.args.asked.now.out c.args.asked.now.setup c.run_crew-run.result c.in-Err.e c.in-Err.is
    c.run_crew-run.ensures.mounts c.run_crew-run.ensures.worn
    )

pub print_logs-requires : goal.print_logs-requires
print_logs-requires g c =
    let ran = c.in-Ok.ensures.ran in
    record {
      told = (
        calls_of ran.events,
        logs_at_once c.args.script.now c.run_crew-run.new.script (calls_of ran.events) c.in-Ok.made.logs.items c.deref.result.now c.deref.ensures.value c.run_crew-run.ensures.lanes
            ran.logs ran.serves c.requires.ordered c.requires.limits.calls,
      );
    }

pub returns : goal.returns
returns g c =
    let ran = c.in-Ok.ensures.ran in
    let places = c.in-Ok.made.places in
    let told = logs_at_once c.args.script.now c.run_crew-run.new.script (calls_of ran.events) c.in-Ok.made.logs.items c.deref.result.now c.deref.ensures.value c.run_crew-run.ensures.lanes
    ran.logs ran.serves c.requires.ordered c.requires.limits.calls in
    let Asks : List ℕ → Type 0 = λ name. c.ne-stores.result ≡ is_some (name_of name) in
    allowed_at_once c.args.image.drive c.args.image.meta c.args.image.pages.items c.args.script.now c.args.asked.now.out c.args.asked.now.setup c.ne-stores.result c.in-Ok.made (string_bytes c.in_ok-text.text) c.in_ok-plan.plan
    c.run_crew-run.ensures.mounts (subst Asks c.as_str.ensures (asks_image c.ne-stores.result c.as_str.result.now c.ne-stores.ensures)) ran
    (
    text_at_once c.args.script.now c.run_crew-run.new.script (calls_of ran.events) (record { host = places.host; drive = places.drive; reads = places.reads; writes = places.writes }) (string_bytes c.in_ok-text.text)
    c.run_crew-run.ensures.names (c.in_ok-text.ensures.text (calls_of ran.events) told)
    )
    c.in_ok-plan.ensures
