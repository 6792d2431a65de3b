-- Who is in the way: by rows of calls, and by the core's claims.
use Rattle.std.proofs.Common.{◌≡◌, ℕ, suc, ◌+◌, ◌<◌, ◌≤◌, Bool, true, false, List, [], length, get_or, Option, Some, None, refl, sym, ap, ◌∙◌, ⊎_elim, arith}
use Rattle.std.specs.Prelude.{◌==◌, ◌&&◌, option_map, if◌then◌else◌}
use Rattle.std.proofs.lemmas.Bool.Decides.{nat_tests}
use mathlib.Core.Path.{fun_ext}
use Rattle.flash_die.specs.Dies.{DieView}
use Rattle.name_table.specs.declared.files.FileRec.{FileRec}
use Rattle.name_table.specs.Files.{RiseFrom, file_named}
use Rattle.plain_files.specs.declared.calls.Call.{Call as PlainCall}
use Rattle.plain_files.specs.declared.calls.Call.TheVariants.{Remove, Seal, Unload, Sync}
use Rattle.core_state.specs.Words.{or_else, first_to}
use Rattle.core_state.specs.State.{Page, File, Claim, Flight, Core}
use Rattle.core_state.specs.Reach.{is_data, is_sync, file_word, file_by, id_or_none}
use Rattle.core_state.specs.InFlight.{claim_of, claims}
use Rattle.core_state.specs.LaneEvents.{is_unsealed, IsUnheld, IsUnused}
use Rattle.core_state.specs.Coherent.{Coherent}
use Rattle.system_state.specs.Jobs.{JobView}
use Rattle.system_state.specs.Cores.{core_of, file_of as core_file, flight_of, claim_of as row_claim}
use Rattle.system_state.specs.Kept.{IsKept}
use Rattle.system_state.specs.declared.lanes.Call.{Call}
use Rattle.system_state.specs.declared.not_yet.NotYet.TheVariants.{Conflict, FnInUse}
use Rattle.system_state.specs.declared.state.State.{State}
use Rattle.call_checks.proofs.Found.{found_again, row_seen}
use Rattle.system_begin.proofs.Clashes.{none_first}
use Rattle.system_quick.specs.Tables.{unsealed_row}
use Rattle.system_quick.specs.Rows.{row_holds}
use Rattle.system_quick.specs.Waits.{holds, uses, least_holder, least_user, conflict_on, use_of, in_the_way}

-- ---- a walk along the lanes

pub first-none : (test : ℕ → Bool) → None ≡ first_to 0 test
unfolding first_to
first-none test = refl

pub first-more : (test : ℕ → Bool) (n : ℕ) (o p : Option ℕ) → o ≡ first_to n test → p ≡ or_else o (if test n then Some n else None) → p ≡ first_to (n + 1) test
unfolding first_to
first-more test n o p e f =
    let k : n + 1 ≡ suc n = omega arith in
    f ∙ (ap (λ (w : Option ℕ). or_else w (if test n then Some n else None)) e ∙ sym (ap (λ (m : ℕ). first_to m test) k))

-- of any other call nobody is
pub nobody : (c : Core) (call : PlainCall) → ((name : List ℕ) → call ≡ Remove name → ⊥) → ((name : List ℕ) → call ≡ Seal name → ⊥) → ((name : List ℕ) → call ≡ Unload name → ⊥) → None ≡ in_the_way c call
nobody c (Remove name) a b d = absurd (a name refl)
nobody c (Seal name) a b d = absurd (b name refl)
nobody c (Unload name) a b d = absurd (d name refl)
nobody c call a b d = refl

sync_word : (call : PlainCall) → is_sync call ≡ true → file_word call ≡ None
sync_word Sync e = refl
sync_word call e = absurd (cc)

module _ {D J : Type 0} (seen : D → DieView) (suits : J → JobView → Type 0) (s : State D J) (k : IsKept seen suits s) (h : Coherent (core_of seen s)) where
  abbrev c : Core
  c = core_of seen s

  -- a call's row is on a file, where its claim holds it; ids begin with 1
  holds_same : (id : ℕ) → 1 ≤ id → (l : ℕ) → row_holds id (get_or s.calls.items l None) ≡ holds id (claims c.calls l)
  holds_same id low l = by (get_or s.calls.items l None) refl
    where
      gathered : List (Option Page)
      gathered = get_or s.told.value.gathered l []

      apart : (n : ℕ) → n ≡ 0 → (n == id) ≡ false
      apart n e = grind (arith, nat_tests)

      off : (t u : Bool) → u ≡ false → u ≡ (t && u)
      off true u e = refl
      off false u e = e

      by : (o : Option Call) → get_or s.calls.items l None ≡ o → row_holds id o ≡ holds id (claim_of (flight_of o gathered))
      by None e = refl
      by (Some row) e =
          let a = row_claim row.claim in
          let right = h.in_flight.right l a (ap (λ (o : Option Call). claim_of (flight_of o gathered)) e) in
          ⊎_elim
          (λ (d : is_data a.request.call ≡ true). sym (ap (λ (t : Bool). t && (a.file == id)) d))
          (λ (y : is_sync a.request.call ≡ true).
          let z : a.file ≡ 0 = ap (λ (w : Claim). w.file) right.same ∙ ap (λ (w : Option (List ℕ)). id_or_none (file_by c.names.files w)) (sync_word a.request.call y) in
          off (is_data a.request.call) (a.file == id) (apart a.file z))
          right.kind

  holder_is : (id : ℕ) → 1 ≤ id → first_to (length s.calls.items) (λ l. row_holds id (get_or s.calls.items l None)) ≡ least_holder c id
  holder_is id low = ap (λ (n : ℕ). first_to n (λ l. row_holds id (get_or s.calls.items l None))) k.calls.count ∙ ap (first_to s.sizes.lanes) (fun_ext (λ l. holds_same id low l))

  -- ---- the conflict on a file

  seen_row : (name : List ℕ) → file_by c.names.files (Some name) ≡ option_map core_file (file_named name s.meta.names.files)
  seen_row name = row_seen s.meta.names.files (Some name)

  pub no_file : (name : List ℕ) → file_named name s.meta.names.files ≡ None → conflict_on c (file_by c.names.files (Some name)) ≡ None
  no_file name e = ap (conflict_on c) (seen_row name ∙ ap (option_map core_file) e)

  pub with_file : RiseFrom 1 s.meta.names.files → (name : List ℕ) (r : FileRec) → file_named name s.meta.names.files ≡ Some r →
      conflict_on c (file_by c.names.files (Some name)) ≡ option_map (λ l. Conflict l) (first_to (length s.calls.items) (λ l. row_holds r.id (get_or s.calls.items l None)))
  with_file rise name r e =
      ap (conflict_on c) (seen_row name ∙ ap (option_map core_file) e)
      ∙ sym (ap (option_map (λ l. Conflict l)) (holder_is r.id (found_again 1 s.meta.names.files name r rise e).low))

  pub unsealed_is : (name : List ℕ) → unsealed_row (file_named name s.meta.names.files) ≡ is_unsealed (file_by c.names.files (Some name))
  unsealed_is name = by (file_named name s.meta.names.files) ∙ sym (ap is_unsealed (seen_row name))
    where
      by : (o : Option FileRec) → unsealed_row o ≡ is_unsealed (option_map core_file o)
      by None = refl
      by (Some r) = refl

  -- ---- nobody in the way

  below : (l : ℕ) (a : Claim) → claims c.calls l ≡ Some a → l < s.sizes.lanes
  below l a e = go (c.calls l) refl e
    where
      go : (o : Option Flight) → c.calls l ≡ o → claim_of o ≡ Some a → l < s.sizes.lanes
      go None f g = absurd (cc)
      go (Some x) f g = (h.dies.in_turn l x f).0

  none_of : {A : Type 0} (f : ℕ → A) (o : Option ℕ) → option_map f o ≡ None → o ≡ None
  none_of f None e = refl
  none_of f (Some n) e = absurd (cc)

  pub unheld : (o : Option File) → conflict_on c o ≡ None → IsUnheld (claims c.calls) o
  unheld None e = tt
  unheld (Some f) e = λ l a is. ap (holds f.id) (sym is) ∙ none_first s.sizes.lanes (λ j. holds f.id (claims c.calls j)) (none_of (λ n. Conflict n) (least_holder c f.id) e) l (below l a is)

  pub unused : (name : List ℕ) → use_of c name ≡ None → IsUnused (claims c.calls) name
  unused name e = λ l a is. ap (uses name) (sym is) ∙ none_first s.sizes.lanes (λ j. uses name (claims c.calls j)) (none_of (λ n. FnInUse n) (least_user c name) e) l (below l a is)

  pub unheld_unsealed : (o : Option File) → (if is_unsealed o then conflict_on c o else None) ≡ None → is_unsealed o ≡ true → IsUnheld (claims c.calls) o
  unheld_unsealed o e t = unheld o (sym (ap (λ (u : Bool). if u then conflict_on c o else None) t) ∙ e)
