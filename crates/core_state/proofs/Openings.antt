-- The opening core of an image without a fault is coherent.
use Rattle.std.proofs.Common.{◌≡◌, ℕ, zero, suc, Bool, true, false, [], length, None, refl, arith}
use Rattle.std.proofs.lemmas.List.{length-replicate}
use Rattle.page_base.specs.Bytes.{zero_page}
use Rattle.dispatcher.specs.declared.side.Side.TheVariants.{Host, Drive}
use Rattle.dispatcher.specs.declared.side.Place.{Place}
use Rattle.index_lists.specs.Words.{count}
use Rattle.core_state.specs.Words.{sum_to}
use Rattle.core_state.specs.State.{Page}
use Rattle.core_state.specs.Contents.{IsBlank}
use Rattle.core_state.specs.Sound.{HasCopies, IsKept, IsInHand}
use Rattle.core_state.specs.Frames.{frames_of}
use Rattle.core_state.specs.Coherent.{Coherent}
use Rattle.core_state.specs.Opening.{Image, IsWhole, opening_block, opening_core}

pub zero_page_whole : length zero_page ≡ 4096
unfolding zero_page
zero_page_whole = length-replicate {A = ℕ} 4096 0

copies : (written : Bool) (page : Page) → length page ≡ 4096 → HasCopies (opening_block written page)
copies true page l = record { host = λ p e. absurd (cc); drive = λ p e. absurd (cc); lent = λ loan e. absurd (cc); whole = l; flash = l }
copies false page l = record { host = λ p e. absurd (cc); drive = λ p e. absurd (cc); lent = λ loan e. absurd (cc); whole = zero_page_whole; flash = l }

kept : (written : Bool) (page : Page) → IsKept (opening_block written page)
kept true page = record { written = λ a b. refl; unwritten = λ a b. absurd (cc) }
kept false page = record { written = λ a b. absurd (cc); unwritten = λ a b. refl }

in_hand : (written : Bool) (page : Page) → IsInHand (opening_block written page)
in_hand written page e = absurd (cc)

blank : (written : Bool) (page : Page) → written ≡ false → IsBlank (opening_block written page)
blank written page e = record { away = record { host = refl; drive = refl; lent = refl }; clean = refl; written = e }

none_used : (n : ℕ) → sum_to n (λ lane. frames_of Host None) ≡ 0
unfolding sum_to
none_used zero = refl
none_used (suc n) = let h = none_used n in omega arith

none_used_drive : (n : ℕ) → sum_to n (λ lane. frames_of Drive None) ≡ 0
unfolding sum_to
none_used_drive zero = refl
none_used_drive (suc n) = let h = none_used_drive n in omega arith

count_none : (b : ℕ) → count b [] ≡ 0
unfolding count
count_none b = refl

pub opening_coherent : (image : Image) (lanes : ℕ) (place : Place) → IsWhole image → Coherent (opening_core image lanes place)
opening_coherent image lanes place h = record {
  placed = record {
    drive = h.drive;
    have = record { exact = h.have.exact; owned = h.have.owned; apart = h.have.apart; within = h.have.within };
    free = λ b free. blank (image.written b) _ (h.free b free);
    named = h.named;
  };
  copies = λ b. copies (image.written b) _ (h.pages _);
  clean = λ b. kept (image.written b) _;
  unclean = λ b. in_hand (image.written b) _;
  lent = record { alone = λ b loan e. absurd (cc); held = λ b loan e. absurd (cc); loans = λ lane call e. absurd (cc) };
  locked = record { apart = λ l m a b page e. absurd (cc); there = λ lane a e. absurd (cc) };
  in_flight = record { right = λ lane a e. absurd (cc); host = λ lane call e. absurd (cc) };
  tails = h.tails;
  frames = record {
    host = let k = none_used lanes in omega arith;
    drive = let k = none_used_drive lanes in omega arith;
    each = λ lane call e. absurd (cc);
  };
  orders = record {
    ordered = record { host = λ b. count_none b; drive = λ b. count_none b; unclean = λ b. count_none b };
    queued = record { lists = λ b. count_none b; unmarked = λ lane call e. absurd (cc); empty = λ lane call e. absurd (cc); one_each = λ l m w a b e. absurd (cc) };
  };
  dies = record { right = λ die out e. absurd (cc); one_each = λ d e x y p. absurd (cc); in_turn = λ lane call e. absurd (cc) };
  gathered = record { pages_are = λ lane call e. absurd (cc); results = λ lane call e. absurd (cc) };
}
