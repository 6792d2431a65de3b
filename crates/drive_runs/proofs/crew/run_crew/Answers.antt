use Rattle.std.proofs.Common.{length, subst}
use Rattle.mounted_systems.proofs.Dealt.{on_ok}
use Rattle.drive_runs.specs.declared.kinds.Opened.{Opened}
use Rattle.drive_runs.specs.Opened.{AreOpened}
use Rattle.drive_runs.proofs.crew.run_crew.Goals as goal

pub returns-in_default-clause-mounts : goal.returns-in_default-clause-mounts
returns-in_default-clause-mounts g c = λ bytes m. c.opening_tells.ensures bytes c.args.pages.items (length c.args.script.now.lanes) c.args.place m

pub crew_and_gather-requires-clause-opened : goal.crew_and_gather-requires-clause-opened
crew_and_gather-requires-clause-opened g c κs within =
    (c.args.dies, c.args.meta, c.args.pages.items, c.args.place, subst (λ (o : Opened). AreOpened c.args.dies c.args.meta c.args.pages.items c.args.script.now c.args.place o) c.in-Memory.is c.in-Ok.ensures)

pub crew_and_gather-requires-in-Flash-clause-opened : goal.crew_and_gather-requires-in-Flash-clause-opened
crew_and_gather-requires-in-Flash-clause-opened g c κs within =
    (c.args.dies, c.args.meta, c.args.pages.items, c.args.place, subst (λ (o : Opened). AreOpened c.args.dies c.args.meta c.args.pages.items c.args.script.now c.args.place o) c.in-Flash.is c.in-Ok.ensures)

pub crew_and_gather-requires-in-Mirrored-clause-opened : goal.crew_and_gather-requires-in-Mirrored-clause-opened
crew_and_gather-requires-in-Mirrored-clause-opened g c κs within =
    (c.args.dies, c.args.meta, c.args.pages.items, c.args.place, subst (λ (o : Opened). AreOpened c.args.dies c.args.meta c.args.pages.items c.args.script.now c.args.place o) c.in-Mirrored.is c.in-Ok.ensures)

pub returns-in-Memory-clause-mounts : goal.returns-in-Memory-clause-mounts
returns-in-Memory-clause-mounts g c = λ bytes m. c.opening_tells.ensures bytes c.args.pages.items (length c.args.script.now.lanes) c.args.place m

pub returns-in-Memory-clause-ran : goal.returns-in-Memory-clause-ran
returns-in-Memory-clause-ran g c =
    let opened = subst (λ (o : Opened). AreOpened c.args.dies c.args.meta c.args.pages.items c.args.script.now c.args.place o) c.in-Memory.is c.in-Ok.ensures in
    on_ok c.crew_and_gather.result (λ r is. is c.args.dies c.args.meta c.args.pages.items c.args.place opened) c.crew_and_gather.ensures.ran

pub returns-in-Memory-clause-worn : goal.returns-in-Memory-clause-worn
returns-in-Memory-clause-worn g c = λ e.
    let opened = subst (λ (o : Opened). AreOpened c.args.dies c.args.meta c.args.pages.items c.args.script.now c.args.place o) c.in-Memory.is c.in-Ok.ensures in
    c.crew_and_gather.ensures.worn e c.args.dies c.args.meta c.args.pages.items c.args.place opened

pub returns-in-Flash-clause-mounts : goal.returns-in-Flash-clause-mounts
returns-in-Flash-clause-mounts g c = λ bytes m. c.opening_tells.ensures bytes c.args.pages.items (length c.args.script.now.lanes) c.args.place m

pub returns-in-Flash-clause-ran : goal.returns-in-Flash-clause-ran
returns-in-Flash-clause-ran g c =
    let opened = subst (λ (o : Opened). AreOpened c.args.dies c.args.meta c.args.pages.items c.args.script.now c.args.place o) c.in-Flash.is c.in-Ok.ensures in
    on_ok c.crew_and_gather-in-Flash.result (λ r is. is c.args.dies c.args.meta c.args.pages.items c.args.place opened) c.crew_and_gather-in-Flash.ensures.ran

pub returns-in-Flash-clause-worn : goal.returns-in-Flash-clause-worn
returns-in-Flash-clause-worn g c = λ e.
    let opened = subst (λ (o : Opened). AreOpened c.args.dies c.args.meta c.args.pages.items c.args.script.now c.args.place o) c.in-Flash.is c.in-Ok.ensures in
    c.crew_and_gather-in-Flash.ensures.worn e c.args.dies c.args.meta c.args.pages.items c.args.place opened

pub returns-in-Mirrored-clause-mounts : goal.returns-in-Mirrored-clause-mounts
returns-in-Mirrored-clause-mounts g c = λ bytes m. c.opening_tells.ensures bytes c.args.pages.items (length c.args.script.now.lanes) c.args.place m

pub returns-in-Mirrored-clause-ran : goal.returns-in-Mirrored-clause-ran
returns-in-Mirrored-clause-ran g c =
    let opened = subst (λ (o : Opened). AreOpened c.args.dies c.args.meta c.args.pages.items c.args.script.now c.args.place o) c.in-Mirrored.is c.in-Ok.ensures in
    on_ok c.crew_and_gather-in-Mirrored.result (λ r is. is c.args.dies c.args.meta c.args.pages.items c.args.place opened) c.crew_and_gather-in-Mirrored.ensures.ran

pub returns-in-Mirrored-clause-worn : goal.returns-in-Mirrored-clause-worn
returns-in-Mirrored-clause-worn g c = λ e.
    let opened = subst (λ (o : Opened). AreOpened c.args.dies c.args.meta c.args.pages.items c.args.script.now c.args.place o) c.in-Mirrored.is c.in-Ok.ensures in
    c.crew_and_gather-in-Mirrored.ensures.worn e c.args.dies c.args.meta c.args.pages.items c.args.place opened
