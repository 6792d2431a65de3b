-- The line that names a transcript by the digest of its reply lines. This project's own.
use Rattle.std.specs.Prelude.{ℕ, List, ◌++◌, codes}
use Rattle.hex.specs.Hex.{encode_lower}
use Rattle.bench_script.specs.Script.{numbered}
use Rattle.sha2.specs.Sha256.{sha256}

-- the start of a script and the number of its drawn lines; the number of replies behind them
abbrev pub script_part : ℕ → ℕ → List ℕ
script_part start calls = numbered (codes "bench start=") start ++ numbered (codes " calls=") calls

abbrev pub counts_part : ℕ → ℕ → ℕ → List ℕ
counts_part start calls replies = script_part start calls ++ numbered (codes " replies=") replies

-- the digest of the reply lines
abbrev pub digest_part : List ℕ → List ℕ
digest_part reply_lines = codes " sha256=" ++ encode_lower (sha256 reply_lines) ++ codes "\n"

-- the line of a script by its start and its drawn lines, of so many replies whose lines have these bytes
abbrev pub digest_line : ℕ → ℕ → ℕ → List ℕ → List ℕ
digest_line start calls replies reply_lines = counts_part start calls replies ++ digest_part reply_lines
