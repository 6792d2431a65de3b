-- `bench START CALLS`: a script with so many lines drawn from a start, run over an empty drive as `solo` runs one. This project's own.
use Rattle.std.specs.Prelude.{ℕ}
use Rattle.command_words.specs.declared.options.DieKind.TheVariants as die
use Rattle.bench_script.specs.Script.{script}
use Rattle.call_text.specs.Scripts.{read_script}
use Rattle.plain_image.specs.Opened.{Opened}
use Rattle.stack_top.specs.Images.{dash_image}
use Rattle.stack_top.specs.Scripts.{opens, script_in}
use Rattle.stack_top.specs.Works.{benches_on, Work, ends, with_read}

-- the drawn script, over an image
abbrev pub bench_on : Opened → ℕ → ℕ → Work
bench_on opened start calls =
    with_read (script_in die.Ftl opened.drive.geometry.dies (read_script (script start calls))) (λ drawn. ends (benches_on opened drawn start calls))

-- no file is read
abbrev pub bench_work : ℕ → ℕ → Work
bench_work start calls = opens dash_image (λ opened. bench_on opened start calls)
