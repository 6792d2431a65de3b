-- What a `load` is answered, by its tests.
use Rattle.std.proofs.Common.{◌≡◌, ℕ, Bool, true, false, List, [], ◌∷◌, ◌++◌, length, map, Option, Some, None, refl, sym, ap, ◌∙◌, Bor}
use Rattle.std.specs.Prelude.{option_copied, not, nat_le, is_some, Result, Ok, Err}
use Rattle.std.specs.List.{find}
use Rattle.std.proofs.lemmas.List.{length-map}
use Rattle.name_table.specs.Name.{is_name}
use Rattle.sbpf_insn.specs.declared.insn.Insn.{Insn}
use Rattle.plain_files.specs.declared.calls.Reply.{Reply}
use Rattle.plain_files.specs.declared.calls.Reply.TheVariants.{BadName, Exists, FnFull}
use Rattle.plain_files.specs.Steps.{◌>>=◌, refuse}
use Rattle.core_state.specs.State.{Function}
use Rattle.core_lemmas.proofs.Views.{find_map, is_some_map}
use Rattle.system_state.specs.Cores.{function_of}
use Rattle.system_state.specs.declared.state.Function.{Function as Row}
use Rattle.call_checks.specs.Checks.{function_by}
use Rattle.system_quick.specs.Tables.{refusal_of, has_name, loaded}

-- what is found behind a reference is found
pub copied_some : {A : Type 0} (o : Option (Bor A)) → is_some (option_copied o) ≡ is_some o
copied_some None = refl
copied_some (Some x) = refl

-- a row has the name, where the core's function has
pub row_named : (word : List ℕ) (rows rows2 : List Row) → rows2 ≡ rows → is_some (function_by rows2 word) ≡ is_some (find (has_name word) (map function_of rows))
row_named word rows rows2 e =
    ap (λ (w : List Row). is_some (function_by w word)) e
    ∙ sym (ap is_some (find_map function_of (has_name word) rows) ∙ is_some_map function_of (function_by rows word))

abbrev tests : List Function → List ℕ → Bool → Result (List Insn) Reply → Bool → Bool → Result (List Function) Reply
tests fs name n code b f = refuse (not n) BadName >>= (λ u. code >>= (λ insns. refuse b Exists >>= (λ u. refuse f FnFull >>= (λ u. Ok (fs ++ record { name = name; code = insns; e = 0 } ∷ [])))))

module _ (fs : List Function) (name : List ℕ) (code : Result (List Insn) Reply) (n : is_name name ≡ true) where
  pub loaded_exists : None ≡ refusal_of code → is_some (find (has_name name) fs) ≡ true → Err Exists ≡ loaded fs name code
  loaded_exists c b = by code c ∙ sym (λ i. tests fs name (n i) code (b i) (nat_le 64 (length fs)))
    where
      by : (code : Result (List Insn) Reply) → None ≡ refusal_of code → Err Exists ≡ tests fs name true code true (nat_le 64 (length fs))
      by (Ok insns) e = refl
      by (Err r) e = absurd (cc)

  pub loaded_full : None ≡ refusal_of code → is_some (find (has_name name) fs) ≡ false → nat_le 64 (length fs) ≡ true → Err FnFull ≡ loaded fs name code
  loaded_full c b f = by code c ∙ sym (λ i. tests fs name (n i) code (b i) (f i))
    where
      by : (code : Result (List Insn) Reply) → None ≡ refusal_of code → Err FnFull ≡ tests fs name true code false true
      by (Ok insns) e = refl
      by (Err r) e = absurd (cc)

  pub loaded_done : (insns : List Insn) → code ≡ Ok insns → is_some (find (has_name name) fs) ≡ false → nat_le 64 (length fs) ≡ false → Ok (fs ++ record { name = name; code = insns; e = 0 } ∷ []) ≡ loaded fs name code
  loaded_done insns c b f = sym (λ i. tests fs name (n i) (c i) (b i) (f i))

-- as many rows as functions
pub few_rows : (rows : List Row) (t : Bool) → nat_le 64 (length rows) ≡ t → nat_le 64 (length (map function_of rows)) ≡ t
few_rows rows t e = ap (nat_le 64) (length-map rows function_of) ∙ e
