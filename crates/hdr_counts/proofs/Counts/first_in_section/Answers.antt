use Rattle.std.proofs.Common.{◌≡◌, ◌+◌, ◌-◌, ◌*◌, ◌<◌, ◌≤◌, length, get_or, map, refl, ap, ◌∙◌, subst, arith}
use Rattle.std.proofs.lemmas.List.{get_or_read}
use Rattle.hdr_counts.specs.Blocks.{sum_below, IsFirstToReach}
use Rattle.hdr_counts.proofs.BlocksSums.{blocks_more, block-sum-read}
use Rattle.hdr_counts.proofs.BlocksPlaces.{first-in-part}
use Rattle.hdr_counts.proofs.Counts.first_in_section.Goals as goal

pub position_in_section-requires-clause-whole : goal.position_in_section-requires-clause-whole
position_in_section-requires-clause-whole g c =
    let n = g.T.Counter.number in
    let s = c.self.inside in
    let k = c.args.k in
    let sums = c.self.invariant.sums_are in
    let within : (k + 1) * s.section ≤ length (map n s.counters.items) = rw (← c.self.view_is, ← c.self.invariant.sections.section_is) at c.requires.within in
    let next = blocks_more s.section (k + 1) (length s.sums.items) sums.some (omega (arith, within, sums.whole)) in
    let lt : k < length s.sums.items = omega (arith, next) in
    let at : c.index.result.now ≡ get_or s.sums.items k 0 = get_or_read s.sums.items k c.index.result.now lt c.index.ensures 0 in
    at ∙ block-sum-read n s.counters.items c.deref.result.now s.section k (k * s.section + s.section - k * s.section) s.sums.items s.sums.items sums lt refl c.deref.ensures.value (omega arith)

pub returns-in-Some : goal.returns-in-Some
returns-in-Some g c =
    let n = g.T.Counter.number in
    let s = c.self.inside in
    let a = c.args.k * s.section in
    let rank = sum_below (map n s.counters.items) a + c.args.rest in
    let before : sum_below (map n c.deref.result.now) a ≡ sum_below (map n s.counters.items) a = ap (λ l. sum_below (map n l) a) c.deref.ensures.value in
    rw (← c.self.view_is, ← c.self.invariant.sections.section_is)
    (subst (λ l. IsFirstToReach (map n l) rank (a + c.in-Some.place)) c.deref.ensures.value
    (first-in-part n c.deref.result.now a (a + s.section - a) c.in-Some.place rank c.args.rest (omega (arith, before)) c.in-Some.ensures))

pub returns-in-None : goal.returns-in-None
returns-in-None g c =
    let n = g.T.Counter.number in
    let s = c.self.inside in
    let k = c.args.k in
    let sums = c.self.invariant.sums_are in
    let within : (k + 1) * s.section ≤ length (map n s.counters.items) = rw (← c.self.view_is, ← c.self.invariant.sections.section_is) at c.requires.within in
    let reached : sum_below (map n s.counters.items) (k * s.section) + c.args.rest ≤ sum_below (map n s.counters.items) ((k + 1) * s.section) = rw (← c.self.view_is, ← c.self.invariant.sections.section_is) at c.requires.reached in
    let next = blocks_more s.section (k + 1) (length s.sums.items) sums.some (omega (arith, within, sums.whole)) in
    let lt : k < length s.sums.items = omega (arith, next) in
    let at : c.index.result.now ≡ get_or s.sums.items k 0 = get_or_read s.sums.items k c.index.result.now lt c.index.ensures 0 in
    let whole = block-sum-read n s.counters.items c.deref.result.now s.section k (k * s.section + s.section - k * s.section) s.sums.items s.sums.items sums lt refl c.deref.ensures.value (omega arith) in
    absurd (omega (arith, whole, sums.each k lt, reached, c.in-None.ensures))
