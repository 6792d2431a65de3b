use Rattle.std.proofs.Common.{◌≡◌, ℕ, [], ◌∷◌, ◌++◌, Vec, Global, None, ap, ◌∙◌}
use Rattle.std.specs.Vec.{vec_items}
use Rattle.call_text.specs.Blocks.{block_of}
use Rattle.call_text.proofs.BlockLaws.{listed, put_last}
use Rattle.call_text.proofs.blocks.Blocks.add.Goals as goal

pub returns : goal.returns
returns c =
    let es = c.self.inside.codes.entries in
    let key = c.in_ok-name.name in
    let name : vec_items key ≡ c.args.name.now = c.in_ok-name.ensures.items_if_clones_equal (λ x y h. h) in
    let new : block_of (vec_items key) (listed (λ (k : Vec ℕ Global). vec_items k) es) ≡ None = ap (λ n. block_of n (listed (λ (k : Vec ℕ Global). vec_items k) es)) name ∙ ap (block_of c.args.name.now) c.self.view_is ∙ c.requires in
    ap (listed (λ (k : Vec ℕ Global). vec_items k)) c.in_ok-insert.ensures.entries ∙ put_last (λ (k : Vec ℕ Global). vec_items k) key c.args.code es new
    ∙ ap (λ xs. xs ++ record { name = vec_items key; code = c.args.code } ∷ []) c.self.view_is ∙ ap (λ n. c.args.self.now ++ record { name = n; code = c.args.code } ∷ []) name
