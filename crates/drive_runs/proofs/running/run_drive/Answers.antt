use Rattle.std.proofs.Common.{length, subst}
use Rattle.mounted_systems.proofs.Dealt.{on_ok}
use Rattle.drive_runs.specs.declared.kinds.Opened.{Opened}
use Rattle.drive_runs.specs.Opened.{AreOpened}
use Rattle.drive_runs.proofs.Begun.{on_any}
use Rattle.drive_runs.proofs.running.run_drive.Goals as goal

pub run_and_gather-requires-clause-opened : goal.run_and_gather-requires-clause-opened
run_and_gather-requires-clause-opened c =
    (c.args.dies, c.args.meta, c.args.pages.items, c.args.place, subst (λ (o : Opened). AreOpened c.args.dies c.args.meta c.args.pages.items c.args.script.now c.args.place o) c.in-Memory.is c.in_ok-opened.ensures)

pub run_and_gather-requires-in-Flash-clause-opened : goal.run_and_gather-requires-in-Flash-clause-opened
run_and_gather-requires-in-Flash-clause-opened c =
    (c.args.dies, c.args.meta, c.args.pages.items, c.args.place, subst (λ (o : Opened). AreOpened c.args.dies c.args.meta c.args.pages.items c.args.script.now c.args.place o) c.in-Flash.is c.in_ok-opened.ensures)

pub run_and_gather-requires-in-Mirrored-clause-opened : goal.run_and_gather-requires-in-Mirrored-clause-opened
run_and_gather-requires-in-Mirrored-clause-opened c =
    (c.args.dies, c.args.meta, c.args.pages.items, c.args.place, subst (λ (o : Opened). AreOpened c.args.dies c.args.meta c.args.pages.items c.args.script.now c.args.place o) c.in-Mirrored.is c.in_ok-opened.ensures)

pub returns-in-Memory-clause-mounts : goal.returns-in-Memory-clause-mounts
returns-in-Memory-clause-mounts c = on_any c.run_and_gather.result (λ r bytes m. c.opening_tells.ensures bytes c.args.pages.items (length c.args.script.now.lanes) c.args.place m)

pub returns-in-Memory-clause-ran : goal.returns-in-Memory-clause-ran
returns-in-Memory-clause-ran c =
    let opened = subst (λ (o : Opened). AreOpened c.args.dies c.args.meta c.args.pages.items c.args.script.now c.args.place o) c.in-Memory.is c.in_ok-opened.ensures in
    on_ok c.run_and_gather.result (λ r is. is c.args.dies c.args.meta c.args.pages.items c.args.place opened) c.run_and_gather.ensures

pub returns-in-Flash-clause-mounts : goal.returns-in-Flash-clause-mounts
returns-in-Flash-clause-mounts c = on_any c.run_and_gather-in-Flash.result (λ r bytes m. c.opening_tells.ensures bytes c.args.pages.items (length c.args.script.now.lanes) c.args.place m)

pub returns-in-Flash-clause-ran : goal.returns-in-Flash-clause-ran
returns-in-Flash-clause-ran c =
    let opened = subst (λ (o : Opened). AreOpened c.args.dies c.args.meta c.args.pages.items c.args.script.now c.args.place o) c.in-Flash.is c.in_ok-opened.ensures in
    on_ok c.run_and_gather-in-Flash.result (λ r is. is c.args.dies c.args.meta c.args.pages.items c.args.place opened) c.run_and_gather-in-Flash.ensures

pub returns-clause-mounts : goal.returns-clause-mounts
returns-clause-mounts c = on_any c.run_and_gather-in-Mirrored.result (λ r bytes m. c.opening_tells.ensures bytes c.args.pages.items (length c.args.script.now.lanes) c.args.place m)

pub returns-clause-ran : goal.returns-clause-ran
returns-clause-ran c =
    let opened = subst (λ (o : Opened). AreOpened c.args.dies c.args.meta c.args.pages.items c.args.script.now c.args.place o) c.in-Mirrored.is c.in_ok-opened.ensures in
    on_ok c.run_and_gather-in-Mirrored.result (λ r is. is c.args.dies c.args.meta c.args.pages.items c.args.place opened) c.run_and_gather-in-Mirrored.ensures
