use Rattle.std.proofs.Common.{◌≡◌, ◌+◌, ◌-◌, ◌<◌, ◌≤◌, length, get_or, map, ap, sym, subst, ◌∙◌, arith}
use Rattle.std.proofs.lemmas.List.Elements.{All-set}
use Rattle.std.proofs.lemmas.List.{map-set, length-set}
use Rattle.hdr_counts.specs.Blocks.{AreSections}
use Rattle.hdr_counts.proofs.BlocksBounds.{lt_as}
use Rattle.hdr_counts.proofs.BlocksSums.{AreSums-set}
use Rattle.hdr_counts.proofs.BlocksWritten.{number-read, are-read}
use Rattle.hdr_counts.proofs.Counts.set.Given as given
use Rattle.hdr_counts.proofs.Counts.set.Goals as goal
use Rattle.hdr_counts.proofs.Counts.set.Goals.{After-as_u64-old}

-- the index is one of the counters
inside : (g : given.Over) (c : After-as_u64-old g) → c.args.i < length (map g.T.Counter.number c.self.inside.counters.items)
inside g c = lt_as _ _ _ c.requires (ap (λ v. length v.numbers) c.self.view_is)

-- its number
old : (g : given.Over) (c : After-as_u64-old g) → c.as_u64-old.result ≡ get_or (map g.T.Counter.number c.self.inside.counters.items) c.args.i 0
old g c = number-read g.T.Counter.number c.self.inside.counters.items c.args.i c.as_u64-old.result c.index.result.now (inside g c) c.index.ensures c.as_u64-old.ensures.value

pub exchanged-requires : goal.exchanged-requires
exchanged-requires g c =
    let s = c.self.inside in
    let after = (goal.at.exchanged-requires g c).After-as_u64-old in
    let pair = are-read s.section c.args.i c.quotient-k.result c.as_u64-old.result c.index-2.result.now (map g.T.Counter.number s.counters.items) s.sums.items c.self.invariant.sums_are (inside g after) (old g after) c.quotient-k.ensures c.index-2.ensures in
    record { within = pair.within; fits = omega (arith, pair.small, c.as_u64-new.type_inv) }

pub invariant_of-self : goal.invariant_of-self
invariant_of-self g c =
    let n = g.T.Counter.number in
    let s = c.self.inside in
    let i = c.args.i in
    let ns = map n s.counters.items in
    let after = (goal.at.invariant_of-self g c).After-as_u64-old in
    let put = AreSums-set s.section ns s.sums.items i (n c.args.value) c.self.invariant.sums_are (inside g after) (omega (arith, c.as_u64-new.ensures.value, c.as_u64-new.type_inv)) in
    let pair = are-read s.section c.args.i c.quotient-k.result c.as_u64-old.result c.index-2.result.now (map g.T.Counter.number s.counters.items) s.sums.items c.self.invariant.sums_are (inside g after) (old g after) c.quotient-k.ensures c.index-2.ensures in
    let is = pair.next (n c.args.value) c.exchanged.result (c.exchanged.ensures ∙ ap (λ v. c.index-2.result.now - c.as_u64-old.result + v) c.as_u64-new.ensures.value) in
    rw (map-set n s.counters.items i c.args.value, ← is, c.quotient-k.ensures) (record { sections = subst (λ m. AreSections s.block s.section m) (sym (length-set ns i (n c.args.value))) c.self.invariant.sections; sums_are = put; shift_is = c.self.invariant.shift_is; fit = All-set (λ n. n ≤ g.T.Counter.greatest) ns i (n c.args.value) c.as_u64-new.ensures.bound c.self.invariant.fit })

pub returns : goal.returns
returns g c = rw (← c.self.view_is) (ap (λ l. record { block = c.self.inside.block; numbers = l }) (map-set g.T.Counter.number c.self.inside.counters.items c.args.i c.args.value))
