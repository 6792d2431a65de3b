-- The side of a call, the frames that it reserves there, and what is learnt from its run. This project's own.
use Rattle.std.specs.Prelude.{ℕ, Bool, false, ◌&&◌, ◌||◌, not, if◌then◌else◌, List, map, Option, Some, None, is_some}
use Rattle.page_base.specs.Bytes.{Pages}
use Rattle.dispatcher.specs.declared.costs.Counts.{Counts}
use Rattle.dispatcher.specs.declared.side.Side.{Side}
use Rattle.dispatcher.specs.declared.side.Side.TheVariants.{Host, Drive}
use Rattle.dispatcher.specs.declared.side.Place.{Place}
use Rattle.dispatcher.specs.declared.side.Place.TheVariants as place
use Rattle.dispatcher.specs.Costs.{Pick, Learn}
use Rattle.plain_files.specs.declared.calls.Call.{Call}
use Rattle.plain_files.specs.declared.calls.Call.TheVariants.{Readl}
use Rattle.core_state.specs.Words.{count_to}
use Rattle.core_state.specs.State.{Shape, Block, Function, Names, Places, Mode, Claim, Frame, NoFrame, Reserved}
use Rattle.core_state.specs.Contents.{copy_at, span_block, is_blank, is_missing}
use Rattle.core_state.specs.Reach.{is_lambda, function_word, word_is, function_for, by_mode}
use Rattle.core_state.specs.PlainOf.{e_or_none}

-- ---- costs

-- a test on a block, which holds of no page without one
abbrev pub at_block : (ℕ → Block) → (Block → Bool) → Option ℕ → Bool
at_block blocks test None = false
at_block blocks test (Some b) = test (blocks b)

-- of how many pages of the span the test holds
abbrev pub count_span : (ℕ → Block) → Places → Claim → (Block → Bool) → ℕ
count_span blocks places claim test = count_to claim.reach.pages (λ i. at_block blocks test (span_block places claim i))

-- the output's pages: of `readl` those of its capacity, of `writel` its span
abbrev pub output_pages : Call → ℕ → ℕ
output_pages (Readl file off len function fuel cap param) n = Pages cap
output_pages _ n = n

-- pages without a block count in the span and in the output
abbrev pub counts_for : (ℕ → Block) → Places → Claim → Counts
counts_for blocks places claim =
    record {
      pages = claim.reach.pages;
      missing = count_span blocks places claim is_missing;
      host = count_span blocks places claim (λ x. is_some x.host);
      out = output_pages claim.request.call claim.reach.pages;
      unclean = count_span blocks places claim (λ x. is_some x.host && not x.clean);
    }

-- the side of a call with a function: the cheaper one, or the one that is forced
abbrev pub placed_side : Place → ℕ → Counts → Side
placed_side place.Auto e counts = Pick e counts
placed_side place.Host e counts = Host
placed_side place.Drive e counts = Drive

-- every other call runs at the host; the claim is that at either side, since a side changes neither span nor counts
abbrev pub side_for : Shape → (ℕ → Block) → Places → List Function → Claim → Side
side_for shape blocks places functions claim =
    if is_lambda claim.request.call
    then placed_side shape.place (e_or_none (function_for functions claim.request.call)) (counts_for blocks places claim)
    else Host

-- ---- frames

-- A shared call reserves a frame for a page that isn't blank and has no copy there, an exclusive one for a page that has no
-- copy there. A page without a block has no copy, and nothing that a shared call could put in.
abbrev pub frame_for : Mode → Side → (ℕ → Block) → Option ℕ → Frame
frame_for mode side blocks None = by_mode mode NoFrame Reserved
frame_for mode side blocks (Some b) =
    if is_some (copy_at side (blocks b)) || by_mode mode (is_blank (blocks b)) false then NoFrame else Reserved

-- ---- learning

-- the function of the name learns from a run over so many pages
abbrev pub learnt : Option (List ℕ) → ℕ → ℕ → Function → Function
learnt word used pages f = record f { e = if word_is word f.name then Learn f.e used pages else f.e }

abbrev pub with_learnt : Call → ℕ → ℕ → Names → Names
with_learnt call used pages names = record names { functions = map (learnt (function_word call) used pages) names.functions }
