-- The blocks of cells.
use Rattle.std.proofs.Common.{◌≡◌, ℕ, ◌+◌, ◌*◌, ◌^◌, ◌<◌, ◌≤◌, ◌==◌, Bool, true, false, if◌then◌else◌, leb, ltb, List, [], ◌∷◌, ◌++◌, length, map, take, drop, get_or, Option, Some, None, refl, sym, ap, subst, ◌∙◌, arith, append_assoc, append-nil, length-append, add-one, drop-cons}
use Rattle.std.specs.List.{All, AllZip, sum_by}
use Rattle.std.proofs.lemmas.Bool.Decides.{nat_tests}
use Rattle.std.proofs.lemmas.List.{map_push, map-append, length-map}
use Rattle.std.proofs.lemmas.List.Elements.{All-nil, All-head, All-tail, All-append}
use Rattle.std.proofs.lemmas.List.Sums.{sum_by_more, sum_by_more_le}
use Rattle.hdr_base.specs.Fractions.{Ratio}
use Rattle.hdr_model.specs.Plain.{Plain, resolution}
use Rattle.hdr_model.specs.Quantiles.{ranked_sample}
use Rattle.hdrhistogram.specs.declared.serialization.class_decoder.RecordedClass.{RecordedClass}
use Rattle.hdr_verdict.specs.ClassSamples.{AreClassesOf}
use Rattle.hdr_verdict.specs.declared.tail.Tail.{Tail}
use Rattle.hdr_verdict.specs.declared.usual.Blocks.{Blocks}
use Rattle.hdr_verdict.specs.declared.usual.TailValues.{TailValues}
use Rattle.hdr_verdict.specs.declared.usual.Usual.{Usual}
use Rattle.hdr_verdict.specs.declared.width.Width.{Width}
use Rattle.hdr_verdict.specs.Tails.{quantile_without, tail_value}
use Rattle.hdr_verdict.specs.Samples.{Rounds, classes_of, CanCount}
use Rattle.hdr_verdict.specs.Usual.{blocks_from, usual_of, usual_of_blocks, least_block, lower_quartile}
use Rattle.hdr_verdict.specs.Blocks.{AppendsBlock, AreBlocksOf, AreNoBlocks, AreNoBlocksFor, AreValuesOf, IsUsualOf, Pushes, tails_of, values_of}
use Rattle.hdr_verdict.proofs.Each.{all-weaker, all-zip, flat-push}

pub value-of-tail : (q : Ratio) (num den value : ℕ) (S : List ℕ) → q ≡ quantile_without num den → value ≡ ranked_sample q S → value ≡ tail_value num den S
unfolding tail_value
value-of-tail q num den value S same is = is ∙ ap (λ q. ranked_sample q S) same

drop-one : (cells : List (List ℕ)) (n : ℕ) → n < length cells → drop n cells ≡ get_or cells n [] ∷ drop (n + 1) cells
drop-one cells n inside = drop-cons cells n [] inside ∙ ap (λ k. get_or cells n [] ∷ drop k cells) (sym (add-one n))

-- the blocks of one more cell
pub blocks-short : (least : ℕ) (since cell : List ℕ) (cells : List (List ℕ)) → length (since ++ cell) < least → blocks_from least since (cell ∷ cells) ≡ blocks_from least (since ++ cell) cells
blocks-short least since cell cells few =
    let T = since ++ cell in
    let not-enough : leb least (length T) ≡ false = grind (arith, nat_tests) in
    ap {B = List (List ℕ)} (λ (b : Bool). if b then T ∷ blocks_from least [] cells else blocks_from least T cells) not-enough

pub blocks-full : (least : ℕ) (since cell : List ℕ) (cells : List (List ℕ)) → least ≤ length (since ++ cell) → blocks_from least since (cell ∷ cells) ≡ (since ++ cell) ∷ blocks_from least [] cells
blocks-full least since cell cells many =
    let T = since ++ cell in
    let enough : leb least (length T) ≡ true = grind (arith, nat_tests) in
    ap {B = List (List ℕ)} (λ (b : Bool). if b then T ∷ blocks_from least [] cells else blocks_from least T cells) enough

-- what an unfinished block has, and the next cell, fit 64 bits
pub since-fits : (width : Width) (cells : List (List ℕ)) (total n : ℕ) (blocks : Blocks) (b : AreBlocksOf width cells total n blocks) → n < length cells → CanCount cells → length b.since + length (get_or cells n []) < 2 ^ 64
since-fits width cells total n blocks b inside fits = omega (arith, b.few, sum_by_more_le {X = List ℕ} length cells n [] inside, fits)

since-few : (cells : List (List ℕ)) (since : List ℕ) (n : ℕ) → n < length cells → length since ≤ sum_by length (take n cells) → length (since ++ get_or cells n []) ≤ sum_by length (take (n + 1) cells)
since-few cells since n inside few = omega (arith, few, length-append since (get_or cells n []), sum_by_more {X = List ℕ} length cells n [] inside)

-- a cell after which the block is not over
pub pushed-short : (width : Width) (cells : List (List ℕ)) (total n : ℕ) (old new : Blocks) (b : AreBlocksOf width cells total n old) → n < length cells
    → new.width ≡ old.width → new.least ≡ old.least → new.tails.items ≡ old.tails.items
    → resolution new.part ≡ classes_of width → Rounds width new.part (b.since ++ get_or cells n []) → length (b.since ++ get_or cells n []) < old.least → AreBlocksOf width cells total (n + 1) new
pushed-short width cells total n old new b inside same least tails classes part few = record {
  done = b.done;
  since = b.since ++ get_or cells n [];
  same_width = same ∙ b.same_width;
  classes = classes;
  part = part;
  values = subst (λ k. All (AreValuesOf total k b.done) new.tails.items) (sym least) (subst (All (AreValuesOf total old.least b.done)) (sym tails) b.values);
  few = since-few cells b.since n inside b.few;
  rest =
      let cell = get_or cells n [] in
      let here = ap (λ l. b.done ++ l) (sym (ap (blocks_from old.least b.since) (drop-one cells n inside) ∙ blocks-short old.least b.since cell (drop (n + 1) cells) few)) ∙ b.rest in
      subst (λ k. b.done ++ blocks_from k (b.since ++ cell) (drop (n + 1) cells) ≡ blocks_from k [] cells) (sym least) here;
}

-- the values of one more block
value-more : (total least : ℕ) (done : List (List ℕ)) (width : Width) (block : Plain) (S : List ℕ) → resolution block ≡ classes_of width → Rounds width block S
    → (old new : TailValues) → AreValuesOf total least done old → AppendsBlock width block old new → AreValuesOf total least (done ++ S ∷ []) new
value-more total least done width block S classes part old new v a = record {
  same_least = v.same_least ∙ ap (λ (t : Tail). least_block t.num t.den total) (sym a.tail);
  values = a.values S classes part ∙ ap (λ l. l ++ tail_value old.tail.num old.tail.den S ∷ []) v.values ∙ sym (map_push (tail_value old.tail.num old.tail.den) done S) ∙ ap (λ (t : Tail). map (tail_value t.num t.den) (done ++ S ∷ [])) (sym a.tail);
  halves = a.halves S classes part ∙ ap (λ l. l ++ tail_value old.tail.num (2 * old.tail.den) S ∷ []) v.halves ∙ sym (map_push (tail_value old.tail.num (2 * old.tail.den)) done S) ∙ ap (λ (t : Tail). map (tail_value t.num (2 * t.den)) (done ++ S ∷ [])) (sym a.tail);
}

-- the tails stay
pub same-tails : (width : Width) (block : Plain) (olds news : List TailValues) → AllZip (AppendsBlock width block) olds news → map (λ (own : TailValues). own.tail) news ≡ map (λ (own : TailValues). own.tail) olds
same-tails width block [] [] all = refl
same-tails width block [] (y ∷ news) all = absurd all
same-tails width block (x ∷ olds) [] all = absurd all
same-tails width block (x ∷ olds) (y ∷ news) all = ap (λ t. t ∷ map (λ (own : TailValues). own.tail) news) all.0.tail ∙ ap (λ l. x.tail ∷ l) (same-tails width block olds news all.1)

-- a cell after which it is
pub pushed-full : (width : Width) (cells : List (List ℕ)) (total n : ℕ) (old new : Blocks) (block : Plain) (b : AreBlocksOf width cells total n old) → n < length cells
    → resolution block ≡ classes_of width → Rounds width block (b.since ++ get_or cells n []) → new.least ≡ old.least → new.width ≡ old.width
    → resolution new.part ≡ resolution block → Rounds width new.part [] → AllZip (AppendsBlock width block) old.tails.items new.tails.items
    → old.least ≤ length (b.since ++ get_or cells n []) → AreBlocksOf width cells total (n + 1) new
pushed-full width cells total n old new block b inside classes part least same new-classes new-part appended many =
    let cell = get_or cells n [] in
    let T = b.since ++ cell in
    let more = all-zip (AreValuesOf total old.least b.done) (AppendsBlock width block) (AreValuesOf total old.least (b.done ++ T ∷ [])) (value-more total old.least b.done width block T classes part) old.tails.items new.tails.items b.values appended in
    record {
      done = b.done ++ T ∷ [];
      since = [];
      same_width = same ∙ b.same_width;
      classes = new-classes ∙ classes;
      part = new-part;
      values = subst (λ k. All (AreValuesOf total k (b.done ++ T ∷ [])) new.tails.items) (sym least) more;
      few = omega arith;
      rest =
          let here = append_assoc b.done (T ∷ []) (blocks_from old.least [] (drop (n + 1) cells))
          ∙ ap (λ l. b.done ++ l) (sym (ap (blocks_from old.least b.since) (drop-one cells n inside) ∙ blocks-full old.least b.since cell (drop (n + 1) cells) many)) ∙ b.rest in
          subst (λ k. (b.done ++ T ∷ []) ++ blocks_from k [] (drop (n + 1) cells) ≡ blocks_from k [] cells) (sym least) here;
    }

drop_all : (cells : List (List ℕ)) → drop (length cells) cells ≡ []
drop_all [] = refl
drop_all (cell ∷ cells) = drop_all cells

-- all blocks
pub all-done : (width : Width) (cells : List (List ℕ)) (total : ℕ) (blocks : Blocks) (b : AreBlocksOf width cells total (length cells) blocks) → b.done ≡ blocks_from blocks.least [] cells
all-done width cells total blocks b =
    sym (append-nil b.done) ∙ ap (λ l. b.done ++ blocks_from blocks.least b.since l) (sym (drop_all cells)) ∙ b.rest

pub no-tail : (num den n : ℕ) (cells : List (List ℕ)) → num ≡ 0 → None ≡ usual_of num den n cells
unfolding usual_of
no-tail num den n cells is =
    let yes : (num == 0) ≡ true = grind (arith, nat_tests) in
    sym (ap {B = Option Usual} (λ (b : Bool). if b then None else usual_of_blocks num den (blocks_from (least_block num den n) [] cells)) yes)

some-tail : (num den n least : ℕ) (cells : List (List ℕ)) → 0 < num → least ≡ least_block num den n → usual_of num den n cells ≡ usual_of_blocks num den (blocks_from least [] cells)
unfolding usual_of
some-tail num den n least cells some is =
    let not-none : (num == 0) ≡ false = grind (arith, nat_tests) in
    ap {B = Option Usual} (λ (b : Bool). if b then None else usual_of_blocks num den (blocks_from (least_block num den n) [] cells)) not-none ∙ ap (λ k. usual_of_blocks num den (blocks_from k [] cells)) (sym is)

few-blocks : (num den : ℕ) (blocks : List (List ℕ)) → length blocks < 4 → None ≡ usual_of_blocks num den blocks
few-blocks num den blocks few =
    let yes : ltb (length blocks) 4 ≡ true = grind (arith, nat_tests) in
    sym (ap {B = Option Usual} (λ (b : Bool). if b then None else Some (record { value = lower_quartile (map (tail_value num den) blocks); half = lower_quartile (map (tail_value num (2 * den)) blocks) })) yes)

many-blocks : (num den : ℕ) (blocks : List (List ℕ)) → 4 ≤ length blocks
    → Some (record { value = lower_quartile (map (tail_value num den) blocks); half = lower_quartile (map (tail_value num (2 * den)) blocks) }) ≡ usual_of_blocks num den blocks
many-blocks num den blocks many =
    let not-few : ltb (length blocks) 4 ≡ false = grind (arith, nat_tests) in
    sym (ap {B = Option Usual} (λ (b : Bool). if b then None else Some (record { value = lower_quartile (map (tail_value num den) blocks); half = lower_quartile (map (tail_value num (2 * den)) blocks) })) not-few)

pub few-usual : (total least : ℕ) (cells : List (List ℕ)) (own : TailValues) → AreValuesOf total least (blocks_from least [] cells) own → 0 < own.tail.num
    → length own.values.items < 4 → None ≡ usual_of own.tail.num own.tail.den total cells
few-usual total least cells own v some few =
    let num = own.tail.num in
    let den = own.tail.den in
    let B = blocks_from least [] cells in
    let few-done : length B < 4 = omega (arith, few, ap length v.values, length-map B (tail_value num den)) in
    few-blocks num den B few-done ∙ sym (some-tail num den total least cells some v.same_least)

pub many-usual : (total least value half : ℕ) (cells : List (List ℕ)) (own : TailValues) → AreValuesOf total least (blocks_from least [] cells) own → 0 < own.tail.num
    → 4 ≤ length own.values.items → value ≡ lower_quartile own.values.items → half ≡ lower_quartile own.halves.items → Some (record { value = value; half = half }) ≡ usual_of own.tail.num own.tail.den total cells
many-usual total least value half cells own v some many value-is half-is =
    let num = own.tail.num in
    let den = own.tail.den in
    let B = blocks_from least [] cells in
    let many-done : 4 ≤ length B = omega (arith, many, ap length v.values, length-map B (tail_value num den)) in
    let first = value-is ∙ ap lower_quartile v.values in
    let second = half-is ∙ ap lower_quartile v.halves in
    ap (λ v. Some (let u : Usual = record { value = v; half = half } in u)) first ∙ ap (λ h. Some (let u : Usual = record { value = lower_quartile (map (tail_value num den) B); half = h } in u)) second
    ∙ many-blocks num den B many-done ∙ sym (some-tail num den total least cells some v.same_least)

-- the tails of more blocks
pub tails-more : (all : List Blocks) (last : Blocks) → map (λ (own : TailValues). own.tail) (values_of (all ++ last ∷ [])) ≡ map (λ (own : TailValues). own.tail) (values_of all) ++ tails_of last
tails-more all last =
    let f = λ (own : TailValues). own.tail in
    ap (map f) (flat-push (λ (b : Blocks). b.tails.items) all last) ∙ map-append f (values_of all) last.tails.items

-- no blocks are those of no cells
pub no-cells : (width : Width) (cells : List (List ℕ)) (total : ℕ) (blocks : Blocks) → AreNoBlocks width total blocks → AreBlocksOf width cells total 0 blocks
no-cells width cells total blocks b = record {
  done = [];
  since = [];
  same_width = b.same_width;
  classes = b.classes;
  part = b.part;
  values = b.values;
  few = omega arith;
  rest = refl;
}

-- the blocks of the first n of cells, for these tails of `total` samples
abbrev pub AreBlocksFor : Width → List (List ℕ) → (total n : ℕ) → List Tail → List Blocks → Type 0
AreBlocksFor width cells total n tails all = All (AreBlocksOf width cells total n) all × (map (λ own. own.tail) (values_of all) ≡ tails)

pub begun-for : (width : Width) (cells : List (List ℕ)) (total : ℕ) (tails : List Tail) (all : List Blocks) → AreNoBlocksFor width total tails all → AreBlocksFor width cells total 0 tails all
begun-for width cells total tails all b = (all-weaker (AreNoBlocks width total) (AreBlocksOf width cells total 0) (no-cells width cells total) all b.0, b.1)

-- the tails of blocks stay with one more cell
same-all-tails : (h : List RecordedClass) (olds news : List Blocks) → AllZip (Pushes h) olds news → map (λ (own : TailValues). own.tail) (values_of news) ≡ map (λ (own : TailValues). own.tail) (values_of olds)
same-all-tails h [] [] all = refl
same-all-tails h [] (y ∷ news) all = absurd all
same-all-tails h (x ∷ olds) [] all = absurd all
same-all-tails h (x ∷ olds) (y ∷ news) all =
    let f = λ (own : TailValues). own.tail in
    map-append f y.tails.items (values_of news) ∙ ap (λ l. l ++ map f (values_of news)) all.0.tails ∙ ap (λ l. map f x.tails.items ++ l) (same-all-tails h olds news all.1) ∙ sym (map-append f x.tails.items (values_of olds))

pub pushed-for : (width : Width) (cells : List (List ℕ)) (total n : ℕ) (h : List RecordedClass) (tails : List Tail) (olds news : List Blocks) → n < length cells → CanCount cells → AreClassesOf width h (get_or cells n [])
    → AreBlocksFor width cells total n tails olds → AllZip (Pushes h) olds news → AreBlocksFor width cells total (n + 1) tails news
pushed-for width cells total n h tails olds news inside fits rounds r p =
    (all-zip (AreBlocksOf width cells total n) (Pushes h) (AreBlocksOf width cells total (n + 1)) (λ old new b q. q.blocks width cells total n inside fits rounds b) olds news r.0 p, same-all-tails h olds news p ∙ r.1)

-- what is usual for tails with the same blocks
usual-each : (total least : ℕ) (cells : List (List ℕ)) (owns : List TailValues) → All (AreValuesOf total least (blocks_from least [] cells)) owns
    → All (λ (own : TailValues). (usual : Option Usual) → IsUsualOf own usual → usual ≡ usual_of own.tail.num own.tail.den total cells) owns
usual-each total least cells owns all =
    all-weaker (AreValuesOf total least (blocks_from least [] cells)) (λ (own : TailValues). (usual : Option Usual) → IsUsualOf own usual → usual ≡ usual_of own.tail.num own.tail.den total cells)
    (λ own v usual is. is total least cells v) owns all

usual-all : (width : Width) (cells : List (List ℕ)) (total : ℕ) (all : List Blocks) → All (AreBlocksOf width cells total (length cells)) all
    → All (λ (own : TailValues). (usual : Option Usual) → IsUsualOf own usual → usual ≡ usual_of own.tail.num own.tail.den total cells) (values_of all)
usual-all width cells total [] h = All-nil (λ (own : TailValues). (usual : Option Usual) → IsUsualOf own usual → usual ≡ usual_of own.tail.num own.tail.den total cells)
usual-all width cells total (blocks ∷ all) h =
    let P = λ (own : TailValues). (usual : Option Usual) → IsUsualOf own usual → usual ≡ usual_of own.tail.num own.tail.den total cells in
    let b = All-head (AreBlocksOf width cells total (length cells)) blocks all h in
    let v = subst (λ done. All (AreValuesOf total blocks.least done) blocks.tails.items) (all-done width cells total blocks b) b.values in
    All-append P blocks.tails.items (values_of all) (usual-each total blocks.least cells blocks.tails.items v) (usual-all width cells total all (All-tail (AreBlocksOf width cells total (length cells)) blocks all h))

usual-tails : (cells : List (List ℕ)) (total : ℕ) (owns : List TailValues) (usual : List (Option Usual))
    → All (λ (own : TailValues). (u : Option Usual) → IsUsualOf own u → u ≡ usual_of own.tail.num own.tail.den total cells) owns → AllZip IsUsualOf owns usual
    → usual ≡ map (λ (tail : Tail). usual_of tail.num tail.den total cells) (map (λ (own : TailValues). own.tail) owns)
usual-tails cells total [] [] all zip = refl
usual-tails cells total [] (u ∷ usual) all zip = absurd zip
usual-tails cells total (own ∷ owns) [] all zip = absurd zip
usual-tails cells total (own ∷ owns) (u ∷ usual) all zip =
    let P = λ (own : TailValues). (u : Option Usual) → IsUsualOf own u → u ≡ usual_of own.tail.num own.tail.den total cells in
    ap (λ v. v ∷ usual) (All-head P own owns all u zip.0) ∙ ap (λ l. usual_of own.tail.num own.tail.den total cells ∷ l) (usual-tails cells total owns usual (All-tail P own owns all) zip.1)

pub usual-for : (width : Width) (cells : List (List ℕ)) (total n : ℕ) (tails : List Tail) (all : List Blocks) (usual : List (Option Usual)) → n ≡ length cells → AreBlocksFor width cells total n tails all → AllZip IsUsualOf (values_of all) usual
    → usual ≡ map (λ (tail : Tail). usual_of tail.num tail.den total cells) tails
usual-for width cells total n tails all usual at r is =
    let each = subst (λ k. All (AreBlocksOf width cells total k) all) at r.0 in
    usual-tails cells total (values_of all) usual (usual-all width cells total all each) is ∙ ap (map (λ (tail : Tail). usual_of tail.num tail.den total cells)) r.1
