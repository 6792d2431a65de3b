-- The side and the claim of a request that nothing refuses.
use Rattle.std.proofs.Common.{◌≡◌, ℕ, ◌+◌, ◌<◌, ◌≤◌, Bool, true, false, List, length, Option, Some, None, refl, sym, ap, ◌∙◌, subst, ⊎_elim, arith}
use Rattle.std.specs.Prelude.{◌⊎◌, not, ◌&&◌, is_some, is_none, map, option_map, if◌then◌else◌}
use Rattle.std.specs.List.{find}
use mathlib.Core.Path.{fun_ext}
use Rattle.dispatcher.specs.declared.costs.Counts.{Counts}
use Rattle.dispatcher.specs.declared.side.Side.{Side}
use Rattle.dispatcher.specs.declared.side.Side.TheVariants.{Host, Drive}
use Rattle.flash_die.specs.Dies.{DieView}
use Rattle.name_table.specs.Files.{IsTable}
use Rattle.plain_files.specs.declared.calls.Call.{Call}
use Rattle.plain_files.specs.declared.calls.Call.TheVariants.{Create, OpenFile, Stat, Remove, Read, Write, Append, Trunc, Seal, Load, Unload, Readl, Writel, Sync}
use Rattle.plain_files.specs.declared.calls.Request.{Request}
use Rattle.plain_files.specs.Plain as plain_files
use Rattle.plain_files.specs.Plain.{early}
use Rattle.core_state.specs.Words.{count_to}
use Rattle.core_state.specs.State.{Block, File, Function, Claim, Core}
use Rattle.core_state.specs.Contents.{contents, is_missing, span_block}
use Rattle.core_state.specs.Reach.{is_lambda, is_data, is_sync, file_by, file_for, file_word, function_by, function_for, function_word, claim_for}
use Rattle.core_state.specs.PlainOf.{plain, plain_file, plain_function, e_or_none}
use Rattle.core_state.specs.Sides.{at_block, counts_for, placed_side, side_for}
use Rattle.core_state.specs.InFlight.{AreThere}
use Rattle.core_lemmas.proofs.Views.{file_seen, function_seen, is_some_map}
use Rattle.system_state.specs.Jobs.{JobView}
use Rattle.system_state.specs.Cores.{core_of, claim_of}
use Rattle.system_state.specs.declared.lanes.Claim.{Claim as Row}
use Rattle.system_state.specs.declared.state.State.{State}
use Rattle.coherence.specs.Paired.{by_side}
use Rattle.system_begin.specs.Begun.{bare, bare_counts, side_of, claim_at_side}
use Rattle.core_state.specs.Reach.{reach_of as reach_for}
use Rattle.core_hold.proofs.Stores.{end_fits}
use Rattle.system_state.specs.Cores.{reach_of}
use Rattle.call_checks.specs.Checks.{row_for, lacks_function}
use Rattle.call_checks.proofs.Refused.{file_test, function_test, first_test, function_is, end_is}
use Rattle.call_checks.proofs.Limits.{IsSmall, reach_small, len_most, len_same}

some_of : {A : Type 0} (o : Option A) → is_none o ≡ false → is_some o ≡ true
some_of None e = absurd (cc)
some_of (Some x) e = refl

file_there : (c : Core) (call : Call) → plain_files.lacks_file (plain c) call ≡ false → is_sync call ≡ false → (is_data call ≡ true) ⊎ (is_sync call ≡ true) → is_some (file_for c.names.files call) ≡ true
file_there c call e s k = by call (⊎_elim (λ (u : is_data call ≡ true). u) (λ (u : is_sync call ≡ true). absurd (let z = s in cc)) k) e
  where
    named : (name : List ℕ) → plain_files.has_no_file (plain c) name ≡ false → is_some (file_by c.names.files (Some name)) ≡ true
    named name e = sym (is_some_map (plain_file c.places (contents c.blocks)) (file_by c.names.files (Some name))) ∙ (ap is_some (sym (file_seen c.shape c.names c.places (contents c.blocks) name)) ∙ some_of _ e)

    by : (call : Call) → is_data call ≡ true → plain_files.lacks_file (plain c) call ≡ false → is_some (file_for c.names.files call) ≡ true
    by (Read name off n) d e = named name e
    by (Write name off bytes) d e = named name e
    by (Append name bytes) d e = named name e
    by (Trunc name n) d e = named name e
    by (Readl file off n function fuel cap param) d e = named file e
    by (Writel file off n function fuel param input) d e = named file e
    by (Create name) d e = absurd (cc)
    by (OpenFile name) d e = absurd (cc)
    by (Stat name) d e = absurd (cc)
    by (Remove name) d e = absurd (cc)
    by (Seal name) d e = absurd (cc)
    by (Load name bytes) d e = absurd (cc)
    by (Unload name) d e = absurd (cc)
    by Sync d e = absurd (cc)

function_there : (c : Core) (call : Call) → plain_files.lacks_function (plain c) call ≡ false → is_lambda call ≡ true → is_some (function_for c.names.functions call) ≡ true
function_there c call e l = by call l e
  where
    named : (name : List ℕ) → plain_files.has_no_function (plain c) name ≡ false → is_some (function_by c.names.functions (Some name)) ≡ true
    named name e = sym (is_some_map plain_function (function_by c.names.functions (Some name))) ∙ (ap is_some (sym (function_seen c.shape c.names c.places (contents c.blocks) name)) ∙ some_of _ e)

    by : (call : Call) → is_lambda call ≡ true → plain_files.lacks_function (plain c) call ≡ false → is_some (function_for c.names.functions call) ≡ true
    by (Readl file off n function fuel cap param) d e = named function e
    by (Writel file off n function fuel param input) d e = named function e
    by (Read name off n) d e = absurd (cc)
    by (Write name off bytes) d e = absurd (cc)
    by (Append name bytes) d e = absurd (cc)
    by (Trunc name n) d e = absurd (cc)
    by (Create name) d e = absurd (cc)
    by (OpenFile name) d e = absurd (cc)
    by (Stat name) d e = absurd (cc)
    by (Remove name) d e = absurd (cc)
    by (Seal name) d e = absurd (cc)
    by (Load name bytes) d e = absurd (cc)
    by (Unload name) d e = absurd (cc)
    by Sync d e = absurd (cc)

pub are_there : (c : Core) (request : Request) (side : Side) → early (plain c) request.call ≡ None → (is_data request.call ≡ true) ⊎ (is_sync request.call ≡ true) → AreThere c.names (claim_for c.names.files request side)
are_there c request side e k = record {
  file = λ s. file_there c request.call (file_test request.call (plain c) e) s k;
  function = λ l. function_there c request.call (function_test request.call (plain c) e) l;
}

module _ {D J : Type 0} (seen : D → DieView) (s : State D J) where
  abbrev c : Core
  c = core_of seen s

  same_test : (test : Block → Bool) → ((b : ℕ) → test (bare s.pair b) ≡ test (c.blocks b)) → (o : Option ℕ) → at_block (bare s.pair) test o ≡ at_block c.blocks test o
  same_test test h None = refl
  same_test test h (Some b) = h b

  -- the caches tell the counts
  counts_same : (w : Row) → bare_counts s.pair s.meta.extents.placed w.file w.reach w.request.value.call ≡ counts_for c.blocks c.places (claim_of w)
  counts_same w =
      let m = fun_ext (λ i. same_test is_missing (λ b. refl) (span_block c.places (claim_of w) i)) in
      let h = fun_ext (λ i. same_test (λ x. is_some x.host) (λ b. refl) (span_block c.places (claim_of w) i)) in
      let u = fun_ext (λ i. same_test (λ x. is_some x.host && not x.clean) (λ b. refl) (span_block c.places (claim_of w) i)) in
      λ j. record (counts_for c.blocks c.places (claim_of w)) { missing = count_to w.reach.pages (m j); host = count_to w.reach.pages (h j); unclean = count_to w.reach.pages (u j) }

  pub side_same : (w : Row) (request : Request) → claim_of w ≡ claim_for c.names.files request Host → (side : Side) →
      side ≡ (if is_lambda request.call then placed_side s.sizes.place (e_or_none (function_for c.names.functions request.call)) (bare_counts s.pair s.meta.extents.placed w.file w.reach request.call) else Host) →
      side ≡ side_of c request
  side_same w request e side g =
      let same : w.request.value ≡ request = ap (λ (y : Claim). y.request) e in
      g ∙ (ap (λ (q : Request). if is_lambda request.call then placed_side s.sizes.place (e_or_none (function_for c.names.functions request.call)) (bare_counts s.pair s.meta.extents.placed w.file w.reach q.call) else Host) (sym same)
      ∙ (ap (λ (n : Counts). if is_lambda request.call then placed_side s.sizes.place (e_or_none (function_for c.names.functions request.call)) n else Host) (counts_same w)
      ∙ ap (λ (y : Claim). if is_lambda request.call then placed_side s.sizes.place (e_or_none (function_for c.names.functions request.call)) (counts_for c.blocks c.places y) else Host) e))

  pub small_for : (table : IsTable s.meta.names) (w : Row) (request : Request) → claim_of w ≡ claim_for c.names.files request Host → early (plain c) request.call ≡ None → IsSmall (reach_of w.reach)
  small_for table w request e q =
      subst IsSmall (sym (ap (λ (y : Claim). y.reach) e ∙ ap (reach_for request.call) (len_same s.meta.names.files request.call)))
      (reach_small request.call (row_for s.meta.names.files request.call) (first_test request.call (plain c) q)
      (len_most s.meta.names.next s.meta.names.files (file_word request.call) table.each)
      (subst (λ (n : ℕ). n ≤ 268435456) (end_is c.shape s.meta.names s.functions.items c.places (contents c.blocks) request.call) (end_fits (plain c) request.call q)))

  pub function_for_call : (request : Request) → early (plain c) request.call ≡ None → lacks_function s.functions.items request.call ≡ false
  function_for_call request q = sym (function_is c.shape s.meta.names s.functions.items c.places (contents c.blocks) request.call) ∙ function_test request.call (plain c) q

pub most_of : (side : Side) (a b m : ℕ) → a ≤ m → b ≤ m → by_side side a b ≤ m
most_of Host a b m h k = h
most_of Drive a b m h k = k

-- the claim at the right side
pub claim_is_at : (c : Core) (request : Request) (w : Row) → claim_of w ≡ claim_for c.names.files request w.side → w.side ≡ side_of c request → claim_of w ≡ claim_at_side c request
claim_is_at c request w e s = e ∙ ap (claim_for c.names.files request) s
