-- How far a call's numbers reach, where nothing refuses it.
use Rattle.std.proofs.Common.{◌≡◌, ℕ, ◌+◌, ◌-◌, ◌<◌, ◌≤◌, Bool, true, false, List, [], ◌∷◌, length, Option, Some, None, refl, sym, ap, ◌∙◌, lit≤, arith}
use Rattle.std.specs.Prelude.{bytes_eq, ◌/◌, ◌%◌, ◌^◌, ◌==◌, ◌||◌, ◌&&◌, not, min, nat_lt, map, option_map, if◌then◌else◌}
use Rattle.std.specs.List.{AllByRecursion}
use Rattle.std.proofs.lemmas.Bool.Decides.{nat_tests}
use Rattle.page_base.specs.Bytes.{Pages}
use Rattle.name_table.specs.declared.files.FileRec.{FileRec}
use Rattle.name_table.specs.Files.{IsFile, file_named}
use Rattle.plain_files.specs.declared.calls.Call.{Call}
use Rattle.plain_files.specs.declared.calls.Call.TheVariants.{Create, OpenFile, Stat, Remove, Read, Write, Append, Trunc, Seal, Load, Unload, Readl, Writel, Sync}
use Rattle.plain_files.specs.Plain.{is_long, is_run_long, is_too_long}
use Rattle.core_state.specs.State.{File, Mode, Shared, Exclusive, Reach}
use Rattle.core_state.specs.Reach.{no_reach, read_reach, write_reach, trunc_reach, reach_of, file_for, file_word, len_or_none, id_or_none}
use Rattle.system_state.specs.Cores.{file_of}
use Rattle.call_checks.specs.Checks.{row_by, row_for, len_or, id_or, end_of}
use Rattle.call_checks.proofs.Found.{row_seen}

pub not_long : (n : ℕ) → is_long n ≡ false → n ≤ 262144
not_long n e = grind (arith, nat_tests)

pub or_head : (a b d : Bool) → (a || b || d) ≡ false → a ≡ false
or_head true b d e = absurd (cc)
or_head false b d e = refl

-- at most 65 pages, within the pages that there may be
pub record IsSmall (r : Reach) : Type 0 where
  pub few : r.pages ≤ 65
  pub to : r.to ≤ 65537
  pub first : 0 < r.pages → r.first + r.pages ≤ 65537

read_small : (off n len : ℕ) → n ≤ 262144 → len ≤ 268435456 → IsSmall (read_reach off n len)
read_small off n len h l = go (n == 0)
  where
    r : Bool → Reach
    r t = if t then no_reach else record { mode = Shared; from = off / 4096; to = min (Pages (off + n)) 65537; first = off / 4096; pages = min (Pages (off + n)) (Pages len) - off / 4096; begin = off; end = off + n }

    go : (t : Bool) → IsSmall (r t)
    go true = record { few = lit≤ tt; to = lit≤ tt; first = λ u. absurd (omega arith) }
    go false = record { few = omega arith; to = omega arith; first = λ u. omega arith }

write_small : (off n len : ℕ) → n ≤ 262144 → off + n ≤ 268435456 → IsSmall (write_reach off n len)
write_small off n len h l = go (n == 0) (nat_lt len (off + n))
  where
    r : Bool → Bool → Reach
    r t u = if t then no_reach else record { mode = Exclusive; from = if u then min (off / 4096) (len / 4096) else off / 4096; to = Pages (off + n); first = off / 4096; pages = Pages (off + n) - off / 4096; begin = off; end = off + n }

    go : (t u : Bool) → IsSmall (r t u)
    go true u = record { few = lit≤ tt; to = lit≤ tt; first = λ v. absurd (omega arith) }
    go false true = record { few = omega arith; to = omega arith; first = λ v. omega arith }
    go false false = record { few = omega arith; to = omega arith; first = λ v. omega arith }

trunc_small : (n len : ℕ) → n ≤ 268435456 → IsSmall (trunc_reach n len)
trunc_small n len h = record {
  few = few (nat_lt n len) (not (n % 4096 == 0));
  to = lit≤ tt;
  first = λ v. let f = few1 (nat_lt n len) (not (n % 4096 == 0)) in omega arith;
}
  where
    few1 : (t u : Bool) → (if t && u then 1 else 0) ≤ 1
    few1 true true = lit≤ tt
    few1 true false = lit≤ tt
    few1 false u = lit≤ tt

    few : (t u : Bool) → (if t && u then 1 else 0) ≤ 65
    few t u = let f = few1 t u in omega arith

nothing_small : IsSmall no_reach
nothing_small = record { few = lit≤ tt; to = lit≤ tt; first = λ u. absurd (omega arith) }

pub reach_small : (call : Call) (file : Option FileRec) → is_too_long call ≡ false → len_or file ≤ 268435456 → end_of call file ≤ 268435456 → IsSmall (reach_of call (len_or file))
reach_small (Read name off n) file e l b = read_small off n (len_or file) (not_long n e) l
reach_small (Write name off bytes) file e l b = write_small off (length bytes) (len_or file) (not_long (length bytes) e) b
reach_small (Append name bytes) file e l b = write_small (len_or file) (length bytes) (len_or file) (not_long (length bytes) e) b
reach_small (Trunc name n) file e l b = trunc_small n (len_or file) b
reach_small (Readl name off n function fuel cap param) file e l b = read_small off n (len_or file) (not_long n (or_head (is_long n) (is_long cap) (is_run_long param fuel) e)) l
reach_small (Writel name off n function fuel param input) file e l b = write_small off n (len_or file) (not_long n (or_head (is_long n) (is_long (length input)) (is_run_long param fuel) e)) b
reach_small (Create name) file e l b = nothing_small
reach_small (OpenFile name) file e l b = nothing_small
reach_small (Stat name) file e l b = nothing_small
reach_small (Remove name) file e l b = nothing_small
reach_small (Seal name) file e l b = nothing_small
reach_small (Load name bytes) file e l b = nothing_small
reach_small (Unload name) file e l b = nothing_small
reach_small Sync file e l b = nothing_small

-- ---- the file of a call

pub len_most : (next : ℕ) (rows : List FileRec) (w : Option (List ℕ)) → AllByRecursion (IsFile next) rows → len_or (row_by rows w) ≤ 268435456
len_most next rows None k = lit≤ tt
len_most next rows (Some word) k = by rows k
  where
    by : (rows : List FileRec) → AllByRecursion (IsFile next) rows → len_or (file_named word rows) ≤ 268435456
    by [] k = lit≤ tt
    by (f ∷ fs) k = go (bytes_eq f.name word) (by fs k.1)
      where
        go : (t : Bool) → len_or (file_named word fs) ≤ 268435456 → len_or (if t then Some f else file_named word fs) ≤ 268435456
        go true ih = k.0.2
        go false ih = ih

len_map : (o : Option FileRec) → len_or_none (option_map file_of o) ≡ len_or o
len_map None = refl
len_map (Some f) = refl

id_map : (o : Option FileRec) → id_or_none (option_map file_of o) ≡ id_or o
id_map None = refl
id_map (Some f) = refl

pub len_same : (rows : List FileRec) (call : Call) → len_or_none (file_for (map file_of rows) call) ≡ len_or (row_for rows call)
len_same rows call = ap len_or_none (row_seen rows (file_word call)) ∙ len_map (row_for rows call)

pub id_same : (rows : List FileRec) (call : Call) → id_or_none (file_for (map file_of rows) call) ≡ id_or (row_for rows call)
id_same rows call = ap id_or_none (row_seen rows (file_word call)) ∙ id_map (row_for rows call)
