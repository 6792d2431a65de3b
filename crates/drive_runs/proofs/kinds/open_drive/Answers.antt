use Rattle.std.proofs.Common.{sym, subst}
use Rattle.flash_die.specs.Memory as memory
use Rattle.ftl_die.specs.Ftl as ftl
use Rattle.mirror_die.specs.Mirror.{seen_of}
use Rattle.mirror_die.specs.Views as mirror
use Rattle.command_words.specs.declared.options.DieKind.{DieKind}
use Rattle.call_job.specs.Suits.{Suits}
use Rattle.drive_runs.specs.Opened.{HasOpened}
use Rattle.drive_runs.proofs.kinds.open_drive.Goals as goal

pub returns-in_ok-open_in_memory-in-Mem : goal.returns-in_ok-open_in_memory-in-Mem
returns-in_ok-open_in_memory-in-Mem c =
    subst (λ (kind : DieKind). HasOpened (λ die. memory.view_of die) Suits kind c.args.meta c.args.pages.items c.args.script.now c.args.place c.in_ok-open_in_memory-in-Mem.field-0)
    (sym c.in-Mem.is) c.in_ok-open_in_memory-in-Mem.ensures

pub returns-in_ok-open_in_flash-in-Ftl : goal.returns-in_ok-open_in_flash-in-Ftl
returns-in_ok-open_in_flash-in-Ftl c =
    subst (λ (kind : DieKind). HasOpened (λ die. ftl.view_of die) Suits kind c.args.meta c.args.pages.items c.args.script.now c.args.place c.in_ok-open_in_flash-in-Ftl.field-0)
    (sym c.in-Ftl.is) c.in_ok-open_in_flash-in-Ftl.ensures

pub returns-in_ok-open_mirrored-in-Mirror : goal.returns-in_ok-open_mirrored-in-Mirror
returns-in_ok-open_mirrored-in-Mirror c =
    subst (λ (kind : DieKind). HasOpened (λ die. seen_of (mirror.view_of die)) Suits kind c.args.meta c.args.pages.items c.args.script.now c.args.place c.in_ok-open_mirrored-in-Mirror.field-0)
    (sym c.in-Mirror.is) c.in_ok-open_mirrored-in-Mirror.ensures
