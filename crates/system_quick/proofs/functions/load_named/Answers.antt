use Rattle.std.proofs.Common.{◌≡◌, ◌++◌, ◌∷◌, [], ℕ, true, false, List, length, map, sym, ap, ◌∙◌, arith}
use Rattle.std.specs.Prelude.{nat_le, is_some}
use Rattle.std.specs.List.{find}
use Rattle.std.proofs.lemmas.Bool.Decides.{nat_tests}
use Rattle.name_table.specs.Name.{is_name}
use Rattle.system_state.specs.Cores.{function_of}
use Rattle.system_quick.specs.Tables.{told, has_name, load_reply, load_functions}
use Rattle.system_quick.proofs.Loads.{copied_some, row_named, loaded_exists, loaded_full, loaded_done, few_rows}
use Rattle.system_quick.proofs.functions.load_named.Goals as goal

pub returns-then-is_some-clause-reply : goal.returns-then-is_some-clause-reply
returns-then-is_some-clause-reply c =
    let fs = map function_of c.args.functions.now.items in
    let n : is_name c.args.word.now ≡ true = ap is_name (sym c.as_slice.ensures) ∙ c.in-Some.ensures.0 in
    let b : is_some (find (has_name c.args.word.now) fs) ≡ true = sym (row_named c.args.word.now c.args.functions.now.items c.deref.result.now c.deref.ensures.value) ∙ (ap is_some (sym c.function_named.ensures) ∙ (copied_some c.function_named.result ∙ (sym c.is_some.ensures ∙ c.if-is_some.true))) in
    ap load_reply (loaded_exists fs c.args.word.now (told c.args.loading.now) n c.in_default-refusal.ensures b)

pub returns-then-is_some-clause-functions : goal.returns-then-is_some-clause-functions
returns-then-is_some-clause-functions c =
    let fs = map function_of c.args.functions.now.items in
    let n : is_name c.args.word.now ≡ true = ap is_name (sym c.as_slice.ensures) ∙ c.in-Some.ensures.0 in
    let b : is_some (find (has_name c.args.word.now) fs) ≡ true = sym (row_named c.args.word.now c.args.functions.now.items c.deref.result.now c.deref.ensures.value) ∙ (ap is_some (sym c.function_named.ensures) ∙ (copied_some c.function_named.result ∙ (sym c.is_some.ensures ∙ c.if-is_some.true))) in
    ap (load_functions fs) (loaded_exists fs c.args.word.now (told c.args.loading.now) n c.in_default-refusal.ensures b)

pub returns-then-len-ge-MOST_FUNCTIONS-clause-reply : goal.returns-then-len-ge-MOST_FUNCTIONS-clause-reply
returns-then-len-ge-MOST_FUNCTIONS-clause-reply c =
    let fs = map function_of c.args.functions.now.items in
    let n : is_name c.args.word.now ≡ true = ap is_name (sym c.as_slice.ensures) ∙ c.in-Some.ensures.0 in
    let b : is_some (find (has_name c.args.word.now) fs) ≡ false = sym (row_named c.args.word.now c.args.functions.now.items c.deref.result.now c.deref.ensures.value) ∙ (ap is_some (sym c.function_named.ensures) ∙ (copied_some c.function_named.result ∙ (sym c.is_some.ensures ∙ c.if-is_some.false))) in
    let f : nat_le 64 (length c.args.functions.now.items) ≡ true = grind (arith, nat_tests) in
    ap load_reply (loaded_full fs c.args.word.now (told c.args.loading.now) n c.in_default-refusal.ensures b (few_rows c.args.functions.now.items true f))

pub returns-clause-reply : goal.returns-clause-reply
returns-clause-reply c =
    let fs = map function_of c.args.functions.now.items in
    let n : is_name c.args.word.now ≡ true = ap is_name (sym c.as_slice.ensures) ∙ c.in-Some.ensures.0 in
    let b : is_some (find (has_name c.args.word.now) fs) ≡ false = sym (row_named c.args.word.now c.args.functions.now.items c.deref.result.now c.deref.ensures.value) ∙ (ap is_some (sym c.function_named.ensures) ∙ (copied_some c.function_named.result ∙ (sym c.is_some.ensures ∙ c.if-is_some.false))) in
    let f : nat_le 64 (length c.args.functions.now.items) ≡ false = grind (arith, nat_tests) in
    ap load_reply (loaded_done fs c.args.word.now (told c.args.loading.now) n c.take_code-code.result.insns c.take_code-code.ensures b (few_rows c.args.functions.now.items false f))

pub returns-clause-functions : goal.returns-clause-functions
returns-clause-functions c =
    let fs = map function_of c.args.functions.now.items in
    let n : is_name c.args.word.now ≡ true = ap is_name (sym c.as_slice.ensures) ∙ c.in-Some.ensures.0 in
    let b : is_some (find (has_name c.args.word.now) fs) ≡ false = sym (row_named c.args.word.now c.args.functions.now.items c.deref.result.now c.deref.ensures.value) ∙ (ap is_some (sym c.function_named.ensures) ∙ (copied_some c.function_named.result ∙ (sym c.is_some.ensures ∙ c.if-is_some.false))) in
    let f : nat_le 64 (length c.args.functions.now.items) ≡ false = grind (arith, nat_tests) in
    c.push_function.ensures.functions
    ∙ (ap (λ (w : List ℕ). fs ++ record { name = w; code = c.take_code-code.result.insns; e = 0 } ∷ []) (c.in-Some.ensures.1 ∙ c.as_slice.ensures)
    ∙ ap (load_functions fs) (loaded_done fs c.args.word.now (told c.args.loading.now) n c.take_code-code.result.insns c.take_code-code.ensures b (few_rows c.args.functions.now.items false f)))
