-- The loop over later lines.
use Rattle.std.proofs.Common.{◌≡◌, ℕ, ◌+◌, ◌<◌, List, ◌∷◌, length, map, drop, get_or, Bool, true, false, ap, sym, ◌∙◌}
use Rattle.std.specs.Prelude.{◌||◌}
use Rattle.std.proofs.lemmas.List.{drop_more}
use Rattle.call_text.specs.Awaits.{is_call_of, is_called_later}
use Rattle.call_text.specs.Blocks.{begins_block}

-- a line outside the blocks has a call of the lane
pub called_here : {A : Type 0} (seen : A → List ℕ) (name : List ℕ) (all : List A) (i : ℕ) (d : A) (in_block : Bool) → i < length all → in_block ≡ false → is_called_later name in_block (map seen (drop i all)) ≡ is_called_later name false (map seen all) → true ≡ is_call_of name (seen (get_or all i d)) → true ≡ is_called_later name false (map seen all)
called_here seen name all i d in_block within off same here =
    let left : drop i all ≡ get_or all i d ∷ drop (i + 1) all = drop_more all i d within in
    ap (λ b. b || is_called_later name (begins_block (seen (get_or all i d))) (map seen (drop (i + 1) all))) here
    ∙ sym (ap (λ ls. is_called_later name false (map seen ls)) left)
    ∙ ap (λ b. is_called_later name b (map seen (drop i all))) (sym off)
    ∙ same
