-- What the calls in flight find: their file and their function are there.
use Rattle.std.proofs.Common.{◌≡◌, ℕ, Bool, true, false, List, Option, Some, None, refl, sym, ap, ◌∙◌, ⊎_elim}
use Rattle.std.proofs.Common.{arith}
use Rattle.std.specs.Prelude.{◌==◌, ◌&&◌, is_some, bytes_eq}
use Rattle.std.proofs.lemmas.Slice.Eq.{bytes_eq-Decides}
use Rattle.std.proofs.lemmas.Bool.Decides.{nat_tests}
use Rattle.core_lanes.specs.LaneEvents.{IsUnheld}
use Rattle.core_lanes.proofs.Words.{same_some}
use Rattle.core_lanes.specs.Call.{Call}
use Rattle.core_lanes.specs.Call.TheVariants.{Readl, Writel, Sync}
use Rattle.core_lanes.specs.Plain.{file_of, function_of}
use Rattle.core_lanes.specs.State.{File, Claim, Core}
use Rattle.core_lanes.specs.Contents.{contents}
use Rattle.core_lanes.specs.Reach.{is_data, is_lambda, is_sync, file_word, function_word, file_by, function_by, file_for, function_for, id_or_none}
use Rattle.core_lanes.specs.PlainOf.{plain_file, plain_function, plain}
use Rattle.core_lanes.specs.InFlight.{claims}
use Rattle.core_lanes.specs.Coherent.{Coherent}
use Rattle.core_lanes.proofs.Views.{file_seen, function_seen, is_some_map}

-- the file that a call in flight is about
pub record FliesOn (c : Core) (a : Claim) (name : List ℕ) : Type 0 where
  pub file : File
  pub found : file_by c.names.files (Some name) ≡ Some file
  pub id : a.file ≡ file.id
  pub kind : is_data a.request.call ≡ true

sync_word : (call : Call) → is_sync call ≡ true → file_word call ≡ None
sync_word Sync e = refl
sync_word call e = absurd (cc)

lambda_word : (call : Call) (name : List ℕ) → function_word call ≡ Some name → is_lambda call ≡ true
lambda_word (Readl file off len function fuel cap param) name e = refl
lambda_word (Writel file off len function fuel param input) name e = refl
lambda_word call name e = absurd (cc)

some_of : {A : Type 0} (o : Option A) → is_some o ≡ true → (x : A) × (o ≡ Some x)
some_of None e = absurd (cc)
some_of (Some x) e = (x, refl)

not_sync : (call : Call) (name : List ℕ) → file_word call ≡ Some name → is_sync call ≡ false
not_sync call name w = go (is_sync call) refl
  where
    go : (t : Bool) → is_sync call ≡ t → t ≡ false
    go true e = let n = sync_word call e in absurd (cc)
    go false e = refl

pub flies_on : (c : Core) (lane : ℕ) (a : Claim) (name : List ℕ) → Coherent c → claims c.calls lane ≡ Some a → file_word a.request.call ≡ Some name → FliesOn c a name
flies_on c lane a name h e w =
    let idle = not_sync a.request.call name w in
    let there = (h.locked.there lane a e).file idle in
    let right = h.in_flight.right lane a e in
    let by : file_for c.names.files a.request.call ≡ file_by c.names.files (Some name) = ap (file_by c.names.files) w in
    let f = some_of (file_by c.names.files (Some name)) (ap is_some (sym by) ∙ there) in
    record {
      file = f.0;
      found = f.1;
      id = ap (λ (k : Claim). k.file) right.same ∙ ap id_or_none (by ∙ f.1);
      kind = ⊎_elim (λ d. d) (λ s. absurd (apart s idle)) right.kind;
    }
  where
    apart : is_sync a.request.call ≡ true → is_sync a.request.call ≡ false → ⊥
    apart s n = cc

-- so the plain state has it
pub file_flies : (c : Core) (lane : ℕ) (a : Claim) (name : List ℕ) → Coherent c → claims c.calls lane ≡ Some a → file_word a.request.call ≡ Some name → is_some (file_of name (plain c).files) ≡ true
file_flies c lane a name h e w =
    let f = flies_on c lane a name h e w in
    ap is_some (file_seen c.shape c.names c.places (contents c.blocks) name) ∙ (is_some_map (plain_file c.places (contents c.blocks)) (file_by c.names.files (Some name)) ∙ ap is_some f.found)

pub function_flies : (c : Core) (lane : ℕ) (a : Claim) (name : List ℕ) → Coherent c → claims c.calls lane ≡ Some a → function_word a.request.call ≡ Some name → is_some (function_of name (plain c).functions) ≡ true
function_flies c lane a name h e w =
    let there = (h.locked.there lane a e).function (lambda_word a.request.call name w) in
    let by : function_for c.names.functions a.request.call ≡ function_by c.names.functions (Some name) = ap (function_by c.names.functions) w in
    ap is_some (function_seen c.shape c.names c.places (contents c.blocks) name) ∙ (is_some_map plain_function (function_by c.names.functions (Some name)) ∙ (ap is_some (sym by) ∙ there))

-- a call in flight is about a file of another name than one that nobody holds
pub unheld_other : (c : Core) (name : List ℕ) (f : File) → file_by c.names.files (Some name) ≡ Some f → IsUnheld (claims c.calls) (Some f) → Coherent c → (lane : ℕ) (a : Claim) → claims c.calls lane ≡ Some a → (other : List ℕ) → file_word a.request.call ≡ Some other →
    (n : List ℕ) → n ≡ name → bytes_eq n other ≡ false
unheld_other c name f found unheld h lane a e other w n same = go (bytes_eq n other) refl
  where
    held : (t : Bool) (n : ℕ) → t ≡ true → n ≡ f.id → (t && (n == f.id)) ≡ false → ⊥
    held t n u v z = grind (arith, nat_tests)

    go : (t : Bool) → bytes_eq n other ≡ t → t ≡ false
    go true q =
        let fly = flies_on c lane a other h e w in
        let o : other ≡ name = sym ((bytes_eq-Decides n other).0 q) ∙ same in
        let g : fly.file ≡ f = same_some (file_by c.names.files (Some name)) fly.file f (ap (λ (k : List ℕ). file_by c.names.files (Some k)) (sym o) ∙ fly.found) found in
        absurd (held (is_data a.request.call) a.file fly.kind (fly.id ∙ ap (λ (k : File). k.id) g) (unheld lane a e))
    go false q = refl
