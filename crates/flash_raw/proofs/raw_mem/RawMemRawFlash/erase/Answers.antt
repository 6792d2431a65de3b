use borrow.Rule.Slice.PartMut.{put_mid}
use Rattle.std.proofs.Common.{◌≡◌, ◌+◌, ◌*◌, ◌-◌, ◌≤◌, true, None, map, replicate, length, ap, ◌∙◌, arith}
use Rattle.std.proofs.lemmas.List.{with_items_is}
use Rattle.flash_raw.specs.Calls.{RawPlan, faults_of, most_of}
use Rattle.flash_raw.specs.Memory.{calls_of, pages_of, plan_of, shown}
use Rattle.flash_raw.proofs.Went.{counted}
use Rattle.flash_raw.proofs.Erased.{block-length, put_mid-length, erased_block-told}
use Rattle.flash_raw.proofs.raw_mem.RawMemRawFlash.erase.Goals as goal

pub returns-clause-ok : goal.returns-clause-ok
returns-clause-ok c =
    let raw = c.args.self.now in
    let front = 64 * c.args.block in
    let items = c.deref_mut.result.now in
    let part = c.erase_pages.new.pages in
    let all : front + 64 - front ≡ 64 = omega arith in
    let upto : front + 64 ≤ length items = grind arith in
    let erased : map shown part ≡ replicate 64 None = rw (block-length items front (front + 64 - front) all upto) at c.erase_pages.ensures in
    let len : length items ≡ raw.pages.len = grind arith in
    ap (map shown) (with_items_is raw.pages (put_mid front (front + 64 - front) items part) (put_mid-length items part front (front + 64 - front) all upto erased ∙ len))
    ∙ erased_block-told raw.pages.items items part c.args.block (front + 64 - front) c.deref_mut.ensures.value all erased

pub returns-clause-went : goal.returns-clause-went
returns-clause-went c =
    let raw = c.args.self.now in
    let later : RawPlan = record (plan_of raw) { erases = calls_of c.next_fails.new.self } in
    let faults : faults_of later ≡ faults_of (plan_of raw) + 0 = grind arith in
    let most : most_of later ≡ most_of (plan_of raw) = grind arith in
    record {
      counts = counted (pages_of raw) _ raw.blocks (plan_of raw) later true faults most;
      ok = λ _. returns-clause-ok c;
      err = λ e. absurd (cc);
    }
