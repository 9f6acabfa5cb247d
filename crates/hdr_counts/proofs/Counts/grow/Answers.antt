use Rattle.std.proofs.Common.{◌≡◌, ℕ, ◌-◌, ◌*◌, ◌≤◌, ◌++◌, length, map, replicate, ap, arith, true, is_ok, vec_len}
use Rattle.std.proofs.lemmas.List.Elements.{All-append, All-replicate}
use Rattle.std.proofs.lemmas.List.{length-append, length-map, length-replicate}
use Rattle.hdr_base.specs.Classes.{most_bins}
use Rattle.hdr_counts.proofs.BlocksSections.{AreSections-made, AreSums-regrown}
use Rattle.hdr_counts.proofs.BlocksSums.{ok_only, grown}
use Rattle.hdr_counts.proofs.Counts.grow.Goals as goal

pub invariant_of-self-2 : goal.invariant_of-self-2
invariant_of-self-2 g c =
    let n = g.T.Counter.number in
    let s = c.self.inside in
    let len : ℕ = c.args.blocks * s.block in
    let same : length (map n s.counters.items) ≡ length c.args.self.now.numbers = ap (λ v. length v.numbers) c.self.view_is in
    let block : s.block ≡ c.args.self.now.block = ap (λ v. v.block) c.self.view_is in
    let blocks : len ≡ c.args.blocks * c.args.self.now.block = ap (λ q. c.args.blocks * q) block in
    let at : length (map n s.counters.items) ≤ len = omega (arith, same, blocks, c.requires.more) in
    let at_xs : length s.counters.items ≤ len = rw length-map at at in
    let ok : is_ok c.resize-2.result ≡ true = c.resize-2.ensures.succeeds (omega (arith, c.in_ok-reserve.ensures.ok, c.reserve.ensures.len, c.len.ensures)) in
    let room : vec_len c.reserve.new.self ≡ length s.counters.items = omega (arith, c.reserve.ensures.len, s.counters.ok.0) in
    let items = rw ok at c.resize-2.ensures.items in
    let map_is : map n c.resize-2.new.self.items ≡ map n s.counters.items ++ replicate (len - length (map n s.counters.items)) 0 = grown n s.counters.items c.resize-2.new.self.items c.reserve.new.self.items c.zero.result len (vec_len c.reserve.new.self) c.reserve.ensures.items room at_xs c.zero.ensures items in
    let sums_room : vec_len s.sums ≡ length s.sums.items = omega (arith, s.sums.ok.0) in
    let few : len ≤ most_bins = omega (arith, blocks, c.requires.at_most) in
    let size : length (map n s.counters.items ++ replicate (len - length (map n s.counters.items)) 0) ≡ len = simp (length-append, length-replicate) (omega (arith, at)) in
    let made = AreSections-made s.block c.section_len-section.result c.args.blocks c.self.invariant.sections.some c.section_len-section.ensures.value in
    let sums = AreSums-regrown s.block s.section c.section_len-section.result len (map n s.counters.items) s.sums.items c.resize.new.self.items (vec_len s.sums) c.self.invariant.sections c.self.invariant.sums_are made.section_is made.whole at few sums_room c.in_ok-resize.ensures.items in
    record {
      sections = rw (map_is, size) made;
      sums_are = rw map_is sums;
      shift_is = c.exponent-self-inside.ensures;
      fit = rw map_is (All-append (λ n. n ≤ g.T.Counter.greatest) (map n s.counters.items) _ c.self.invariant.fit (All-replicate (λ n. n ≤ g.T.Counter.greatest) _ 0 (omega arith)));
    }

pub returns : goal.returns
returns g c =
    let n = g.T.Counter.number in
    let s = c.self.inside in
    let len : ℕ = c.args.blocks * s.block in
    let same : length (map n s.counters.items) ≡ length c.args.self.now.numbers = ap (λ v. length v.numbers) c.self.view_is in
    let block : s.block ≡ c.args.self.now.block = ap (λ v. v.block) c.self.view_is in
    let blocks : len ≡ c.args.blocks * c.args.self.now.block = ap (λ q. c.args.blocks * q) block in
    let at : length (map n s.counters.items) ≤ len = omega (arith, same, blocks, c.requires.more) in
    let at_xs : length s.counters.items ≤ len = rw length-map at at in
    let ok : is_ok c.resize-2.result ≡ true = c.resize-2.ensures.succeeds (omega (arith, c.in_ok-reserve.ensures.ok, c.reserve.ensures.len, c.len.ensures)) in
    let room : vec_len c.reserve.new.self ≡ length s.counters.items = omega (arith, c.reserve.ensures.len, s.counters.ok.0) in
    let items = rw ok at c.resize-2.ensures.items in
    let map_is : map n c.resize-2.new.self.items ≡ map n s.counters.items ++ replicate (len - length (map n s.counters.items)) 0 = grown n s.counters.items c.resize-2.new.self.items c.reserve.new.self.items c.zero.result len (vec_len c.reserve.new.self) c.reserve.ensures.items room at_xs c.zero.ensures items in
    ok_only c.resize-2.result _ _ ok (λ _. rw (← c.self.view_is) (ap (λ l. record { block = s.block; numbers = l }) map_is))
