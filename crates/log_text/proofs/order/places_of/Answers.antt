use Rattle.std.proofs.Common.{◌≡◌, ℕ, ◌+◌, ◌<◌, List, length, get_or, drop, sym, ap, ◌∙◌, subst, arith}
use Rattle.std.proofs.lemmas.List.{take_at}
use Rattle.lane_logs.specs.declared.logs.LaneLog.{LaneLog}
use Rattle.plain_files.specs.History.{Entry}
use Rattle.log_text.specs.Told.{IsTold}
use Rattle.log_text.specs.Places.{IsLogOf, ArePlacesBelow, HasNoted}
use Rattle.log_text.proofs.Noting.{log_at, below_none, below_next, below_every}
use Rattle.log_text.proofs.order.places_of.Goals as goal

pub loop-i-init : goal.loop-i-init
loop-i-init c = λ lanes calls told.
    let l = c.in_ok-places.ensures.len in
    let n = c.count_of-count.ensures lanes calls told in
    below_none calls c.in_ok-places.places.items (omega (arith, c.in_ok-places.places.ok.0))

log_is : (lanes : ℕ) (calls : List Entry) (logs : List LaneLog) (i : ℕ) (log : LaneLog) (places now : List (ℕ × ℕ)) → IsTold lanes calls logs → i < length logs → log ≡ get_or logs i log → now ≡ places → ArePlacesBelow i calls places → IsLogOf calls log (length now)
log_is lanes calls logs i log places now told low here same are =
    let n : length calls ≡ length now = sym are.count ∙ ap length (sym same) in
    subst (λ (m : ℕ). IsLogOf calls log m) n (log_at lanes calls logs i log told low here).0

pub note_places-requires : goal.note_places-requires
note_places-requires c =
    let are = c.loop-i.invariant c.requires.0 c.requires.1 c.requires.2 in
    (c.requires.1, log_is c.requires.0 c.requires.1 c.args.logs.now c.loop-i.i c.index-logs-i.result c.loop-i.places.items c.deref_mut.result.now c.requires.2 c.loop-i-test.true c.index-logs-i.is c.deref_mut.ensures.value are)

pub loop-i-preserved : goal.loop-i-preserved
loop-i-preserved c = λ lanes calls told.
    let are = c.loop-i.invariant lanes calls told in
    let log = c.index-logs-i.result in
    let old = c.loop-i.places.items in
    let new = c.note_places.new.places in
    let has = c.note_places.ensures calls (log_is lanes calls c.args.logs.now c.loop-i.i log old c.deref_mut.result.now told c.loop-i-test.true c.index-logs-i.is c.deref_mut.ensures.value are) in
    let from = subst (λ (xs : List (ℕ × ℕ)). HasNoted log.lane (length log.entries.items) calls xs new) c.deref_mut.ensures.value has in
    let count = from.count in
    let whole = take_at new (drop (length new) old) c.loop-i.places.len (omega (arith, c.loop-i.places.ok.0)) in
    subst (λ (xs : List (ℕ × ℕ)). ArePlacesBelow (c.loop-i.i + 1) calls xs) (sym whole) (below_next lanes calls c.args.logs.now c.loop-i.i log old new told c.loop-i-test.true c.index-logs-i.is are from)

pub returns : goal.returns
returns c = λ lanes calls told. below_every lanes calls c.args.logs.now c.loop-i.i c.loop-i.places.items told c.loop-i-test.false (c.loop-i.invariant lanes calls told)
