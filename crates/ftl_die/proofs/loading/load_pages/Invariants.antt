use Rattle.std.proofs.Common.{◌≡◌, ◌-◌, ◌++◌, length, take, replicate, Some}
use Rattle.page_base.specs.Bytes.{zero_page}
use Rattle.ftl_die.proofs.loading.load_pages.Given as goal

abbrev pub invariant-loop-i : goal.invariant-loop-i
invariant-loop-i g l = record {
  pages : (g.D.Die.seen l.die).pages ≡ Some (take l.i l.pages ++ replicate (length l.pages - l.i) zero_page);
  size : (g.D.Die.seen l.die).size ≡ length l.pages;
  sure : (g.D.Die.seen l.die).most ≡ Some 0;
}
