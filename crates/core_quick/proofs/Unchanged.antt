-- Answers that leave the plain state.
use Rattle.std.proofs.Common.{◌≡◌, ℕ, List, [], ◌∷◌, Option, Some, refl, sym, ap, subst}
use Rattle.std.specs.Prelude.{◌<◌, ◌≢◌, map}
use Rattle.std.specs.List.{Contains}
use Rattle.core_lanes.specs.Plain as plain_files
use Rattle.core_lanes.specs.Plain.{State}
use Rattle.core_lanes.specs.Words.{EachBehind}
use Rattle.core_lanes.specs.State.{Page, Shape, File, Function, Names, Places, Core}
use Rattle.core_lanes.specs.Contents.{contents}
use Rattle.core_lanes.specs.PlainOf.{plain_file, plain_function, plain_of, plain, function_like, names_like}
use Rattle.core_lanes.specs.Placed.{AreNamed}
use Rattle.core_lanes.specs.Coherent.{Coherent}
use Rattle.core_lanes.specs.Resizing.{follows}
use Rattle.core_quick.proofs.Seen.{files_seen, renamed_keeps}
use Rattle.core_quick.proofs.Named.{each_map}
use Rattle.core_quick.proofs.Renamed.{SameFiles, same_have, same_tails, same_below, len_by_id, follows_is}

-- functions of other e are as far apart
pub functions_of : (old : List Function) (R : List ℕ → List ℕ → Type 0) (functions : List Function) → EachBehind (λ (f g : Function). R f.name g.name) functions → EachBehind (λ (f g : Function). R f.name g.name) (map (function_like old) (map plain_function functions))
functions_of old R functions h = each_map (λ (f g : Function). R f.name g.name) (function_like old) (map plain_function functions) (each_map (λ (f g : plain_files.Function). R f.name g.name) plain_function functions h)

pub same_files : (files : List File) (files2 : List File) → files2 ≡ files → SameFiles files files2
same_files files files2 e = record {
  back = λ f2 i. (f2, subst (λ (fs : List File). Contains fs f2) e i, refl, refl);
  forth = λ f i. (f, subst (λ (fs : List File). Contains fs f) (sym e) i, refl);
}

named_same : (shape : Shape) (names : Names) (places : Places) (pages : ℕ → Page) → AreNamed names → AreNamed (names_like (plain_of shape names places pages) names)
named_same shape names places pages h =
    let e = files_seen places pages names.files in
    record {
      ids = subst (EachBehind (λ (f g : File). f.id < g.id)) (sym e) h.ids;
      names_apart = subst (EachBehind (λ (f g : File). f.name ≢ g.name)) (sym e) h.names_apart;
      functions_apart = functions_of names.functions (λ a b. a ≢ b) names.functions h.functions_apart;
      ids_below = same_below names (names_like (plain_of shape names places pages) names) (same_files names.files _ e) refl h.ids_below;
    }

pub functions_back : (old : List Function) (functions : List plain_files.Function) → map plain_function (map (function_like old) functions) ≡ functions
functions_back old [] = refl
functions_back old (f ∷ fs) = ap (λ gs. f ∷ gs) (functions_back old fs)

-- the names of the core's own plain state leave it as it is
pub own_plain : (c : Core) → plain (record c { names = names_like (plain c) c.names }) ≡ plain c
own_plain c =
    let a = ap (map (plain_file c.places (contents c.blocks))) (files_seen c.places (contents c.blocks) c.names.files) in
    let b = functions_back c.names.functions (map plain_function c.names.functions) in
    λ i. record { files = a i; next = c.names.next; functions = b i; capacity = c.shape.blocks }

pub own_names_keep : (c : Core) → Coherent c → Coherent (record c { names = names_like (plain c) c.names })
own_names_keep c h =
    let s = same_files c.names.files (names_like (plain c) c.names).files (files_seen c.places (contents c.blocks) c.names.files) in
    renamed_keeps c (plain c) (named_same c.shape c.names c.places (contents c.blocks) h.placed.named) (same_have c.shape c.names (names_like (plain c) c.names) c.places s h.placed.have) (same_tails c.names (names_like (plain c) c.names) c.places (contents c.blocks) s h.tails)
    (λ lane a e. record { file = λ name w. refl; function = λ name w. refl }) (own_plain c) h

-- an answer that leaves the plain state
pub unchanged_keeps : (c : Core) (found : Option File) (s2 : State) → s2 ≡ plain c → ((f : File) → found ≡ Some f → Contains c.names.files f) → Coherent c → Coherent (follows c found s2)
unchanged_keeps c found s2 e there h =
    subst (λ (s : State). Coherent (follows c found s)) (sym e)
    (subst Coherent (sym (follows_is c found (plain c) (λ f k. (there f k, len_by_id c.shape c.names c.places (contents c.blocks) h.placed.named f (there f k))) h))
    (own_names_keep c h))
