-- The small run happens.
use Rattle.std.proofs.Common.{◌≡◌, ℕ, ◌<◌, true, false, [], Option, Some, None, refl, sym, ap, ◌∙◌, subst, arith, inl, inr, lit≤}
use Rattle.std.specs.Prelude.{is_some}
use Rattle.std.proofs.lemmas.Bool.Decides.{nat_tests}
use Rattle.page_base.specs.Bytes.{zero_page}
use Rattle.index_lists.specs.Words.{put}
use Rattle.core_state.specs.Words.{from_fn, sum_to}
use Rattle.core_state.specs.Opening.{new_die}
use Rattle.core_state.specs.declared.actor.Actor.TheVariants.{Lane, Closer}
use Rattle.index_lists.proofs.Puts.{put-some}
use Rattle.core_state.specs.State.{File, Names, Claim, Flight, Out, DieState}
use Rattle.core_state.specs.Reach.{is_lambda, is_sync, file_for, function_for}
use Rattle.core_state.specs.InFlight.{claim_of, claims, AreThere, Locked}
use Rattle.core_state.specs.Happens.{CoreRun}
use Rattle.core_state.specs.Happens.{after_all}
use Rattle.std.specs.List.{Contains}
use Rattle.dispatcher.specs.declared.side.Place.TheVariants.{Auto}
use Rattle.core_state.specs.Coherent.{Coherent}
use Rattle.core_state.specs.Opening.{IsWhole}
use Rattle.core_state.proofs.Openings.{opening_coherent, zero_page_whole}
use Rattle.core_state.specs.SmallRun.{small_image, small_core, small_events}

nothing : (out : Out) → None ≡ Some out → ⊥
nothing out e = cc

not_closer : (l : ℕ) → Lane l ≡ Closer → ⊥
not_closer l e = cc

-- a die that went out and came home
none_again : (d n : ℕ) (x y : DieState) → y.out ≡ None → (put (put (λ (die : ℕ). new_die) n x) n y d).out ≡ None
none_again d n x y e = grind (arith, nat_tests)

nothing_again : (d n : ℕ) (x y : DieState) (out : Out) → y.out ≡ None → (put (put (λ (die : ℕ). new_die) n x) n y d).out ≡ Some out → ⊥
nothing_again d n x y out e f = let k = none_again d n x y e in cc

-- the only call is this one
only_call : (lane : ℕ) (call : Flight) (l : ℕ) (x : Flight) → put (λ (k : ℕ). None) lane (Some call) l ≡ Some x → x ≡ call
only_call lane call = put-some (λ (k : ℕ) (x : Flight). x ≡ call) (λ (k : ℕ). None) lane call refl (λ j x d e. absurd (cc))

only_claim : (call : Flight) (o : Option Flight) → ((x : Flight) → o ≡ Some x → x ≡ call) → (a : Claim) → claim_of o ≡ Some a → a ≡ call.claim
only_claim call None h a e = absurd (cc)
only_claim call (Some x) h a e = let same : x.claim ≡ a = cc in sym same ∙ ap (λ (f : Flight). f.claim) (h x refl)

claim_alone : (lane : ℕ) (call : Flight) (l : ℕ) (a : Claim) → claims (put (λ (k : ℕ). None) lane (Some call)) l ≡ Some a → a ≡ call.claim
claim_alone lane call l a e = only_claim call (put (λ (k : ℕ). None) lane (Some call) l) (only_call lane call l) a e

-- it locks nothing
locked_alone : (names : Names) (lane : ℕ) (call : Flight) → call.claim.reach.to ≡ 0 →
    (is_sync call.claim.request.call ≡ false → is_some (file_for names.files call.claim.request.call) ≡ true) →
    (is_lambda call.claim.request.call ≡ true → is_some (function_for names.functions call.claim.request.call) ≡ true) →
    Locked names (claims (put (λ (k : ℕ). None) lane (Some call)))
locked_alone names lane call none file function = record {
  apart = λ l m a b page e f d same in_a in_b.
      let k : a.reach.to ≡ 0 = ap (λ (x : Claim). x.reach.to) (claim_alone lane call l a e) ∙ none in
      let h = in_a.high in
      absurd (omega arith);
  there = λ l a e. subst (λ (x : Claim). AreThere names x) (sym (claim_alone lane call l a e)) (record { file = file; function = function });
}

no_pages : (lane : ℕ) (call : Flight) (l : ℕ) (x : Flight) → call.claim.reach.pages ≡ 0 → put (λ (k : ℕ). None) lane (Some call) l ≡ Some x → (i : ℕ) → i < x.claim.reach.pages → ⊥
no_pages lane call l x none e i h =
    let k : x.claim.reach.pages ≡ 0 = ap (λ (f : Flight). f.claim.reach.pages) (only_call lane call l x e) ∙ none in
    omega arith

none_listed : (f : File) → Contains [] f → ⊥
none_listed f h = let l = h.1 in omega arith

pub small_run : CoreRun small_core small_events (after_all small_core small_events)
unfolding from_fn sum_to
small_run = (
  record { hands = λ t die out e q. nothing out e; closing = λ e. absurd (not_closer _ e); may = record { within = omega arith; outside = refl }; leaves = refl },
  (
    record { hands = λ t die out e q. nothing out e; closing = λ e. absurd (not_closer _ e); may = record { within = omega arith; outside = refl }; leaves = refl },
    (
      record {
        hands = λ t die out e q. nothing out e;
        closing = λ e. absurd (not_closer _ e);
        may = record { ready = record { idle = record { within = omega arith; inside = refl; idle = refl }; unmarked = refl; awaited = tt }; reply_is = refl; kind = inl refl; clear = tt };
        leaves = refl;
      },
      (
        record {
          hands = λ t die out e q. nothing out e;
          closing = λ e. absurd (not_closer _ e);
          may = record { idle = record { within = omega arith; inside = refl; idle = refl }; awaited = tt; marked = λ e. absurd (cc) };
          leaves = refl;
        },
        (
          record {
            hands = λ t die out e q. nothing out e;
            closing = λ e. absurd (not_closer _ e);
            may = record {
              ready = record { idle = record { within = omega arith; inside = refl; idle = refl }; unmarked = refl; awaited = tt };
              kind = inr refl;
              not_early = refl;
              side_is = refl;
              locked = locked_alone _ 1 _ refl (λ e. absurd (cc)) (λ e. absurd (cc));
              frames = record { host = lit≤ tt; drive = lit≤ tt; each = λ l x e i h. absurd (no_pages 1 _ l x refl e i h) };
            };
            leaves = refl;
          },
          (
            record {
              hands = λ t die out e q. nothing out e;
              closing = λ e. absurd (not_closer _ e);
              may = record {
                writes = (record { flight = _; flies = refl; sync = refl }, refl, refl);
                below = omega arith;
                first = λ e. refl;
                on_die = refl;
                home = refl;
                whole = zero_page_whole;
              };
              leaves = refl;
            },
            (
              record {
                hands = λ t. absurd (cc);
                closing = λ e. absurd (not_closer _ e);
                may = record { number = 0; bytes = zero_page; out = refl; left_is = record { ok = λ e. absurd (cc); failed = λ e. zero_page_whole } };
                leaves = refl;
              },
              (
                record {
                  hands = λ t die out e q. nothing_again die 0 _ _ out refl e;
                  closing = λ e. absurd (not_closer _ e);
                  may = record {
                    call = _;
                    flies = refl;
                    request_is = refl;
                    at_end = inl (refl, refl);
                    marked = λ e. refl;
                    unmarked = λ e. absurd (cc);
                  };
                  leaves = refl;
                },
                (
                  record { hands = λ t die out e q. nothing_again die 0 _ _ out refl e; closing = λ e. absurd (not_closer _ e); may = record { idle = record { within = omega arith; inside = refl; idle = refl }; unmarked = refl }; leaves = refl },
                  (
                    record { hands = λ t die out e q. nothing_again die 0 _ _ out refl e; closing = λ e. absurd (not_closer _ e); may = record { idle = record { within = omega arith; inside = refl; idle = refl }; unmarked = refl }; leaves = refl },
                    refl,
                  ),
                ),
              ),
            ),
          ),
        ),
      ),
    ),
  ),
)

pub small_whole : IsWhole small_image
small_whole = record {
  drive = record { some_blocks = lit≤ tt; most_blocks = lit≤ tt; some_dies = lit≤ tt; most_dies = lit≤ tt };
  have = record {
    exact = λ f h p. absurd (none_listed f h);
    owned = λ id p b e. absurd (cc);
    apart = λ f g p q b e. absurd (cc);
    within = λ id p b e. absurd (cc);
  };
  named = record { ids = tt; names_apart = tt; functions_apart = tt; ids_below = λ f h. absurd (none_listed f h) };
  free = λ b h. refl;
  pages = λ p. zero_page_whole;
  tails = λ f h p j l k. absurd (none_listed f h);
}

pub small_coherent : Coherent small_core
small_coherent = opening_coherent small_image 2 Auto small_whole
