-- What running lines leaves in the writer: one line, one part after another, and lines that are run while the input is read.
use Rattle.hdr_tool.proofs.Common.{◌≡◌, ℕ, ◌+◌, ◌-◌, List, [], ◌++◌, length, take, drop, Option, Some, None, Result, Ok, Err, IsErrAnd, refl, sym, ap, ◌∙◌, append_assoc, suc, ◌^◌, Bool, ◌∷◌, subst, length-append, zero-add, arith, ◌*◌, true, false, ◌==◌, inl, inr, IfSome, ◌⊎◌, Fault, Appends, Keeps, Consumes, IsAtEnd, take_rest, append-nil, Plain, IsPlain, after_call, IsCallError, Call, AppendsFront, Command, Apply, command_of, number_lines, Run, prepend, run_command, run_end, lines_run, rest_run, IsLogText, Outputs, as_reached, Cause, Resource, Output, Input, Misuse, cause_of, IsStep, RunsAll, OnInput, whatever_follows, Fails, Logged, LoggedFirst, ended_by, result_map_both, CommandNeeds, LinesNeed, Needs, ReadsTo, after_reset, IsV2, HasTooGreatCount, IsIntervalText, NotACommand, NotWritten, NoMemory, Consumes-trans, Consumes-nil}
use Rattle.std.proofs.Math.Seq.{take-add}
use Rattle.hdr_tool.specs.Commands.{command_of_name}
use Rattle.hdr_tool.specs.Program.{Interval}
use Rattle.hdr_core.specs.declared.call.CallError.{CallError}
use Rattle.hdrhistogram.specs.declared.serialization.errors.V2SerializeError.TheVariants.{CountNotSerializable}
use Rattle.hdrhistogram.specs.declared.serialization.interval_log.errors.IntervalLogWriterError.TheVariants.{SerializeError}
use Rattle.hdr_tool.proofs.OutcomesCounts.{one_too_great, bytes_not_great}
use Rattle.hdr_tool.proofs.LinesParts.{numbered_end}

pub appends_both : (o m n : Option (List ℕ)) (xs ys : List ℕ) → Appends o m xs → Appends m n ys → Appends o n (xs ++ ys)
appends_both None m n xs ys p q = tt
appends_both (Some o) None n xs ys p q = absurd p
appends_both (Some o) (Some m) None xs ys p q = absurd q
appends_both (Some o) (Some m) (Some n) xs ys p q = q ∙ ap (λ t. t ++ ys) p ∙ append_assoc o xs ys

-- a write that wrote k more bytes of a text
pub appends_more : (o m n : Option (List ℕ)) (text : List ℕ) (i k : ℕ) → Appends o m (take i text) → Appends m n (take k (take (length text - i) (drop i text))) → Appends o n (take (i + k) text)
appends_more o m n text i k p q = rw (take-add i k text) (appends_both o m n (take i text) (take k (drop i text)) p (rw take_rest at q))

-- a write that wrote nothing
pub appends_kept : (o m n : Option (List ℕ)) (xs : List ℕ) → Appends o m xs → Keeps m n → Appends o n xs
appends_kept None m n xs p k = tt
appends_kept (Some o) None n xs p k = absurd p
appends_kept (Some o) (Some m) None xs p k = absurd k
appends_kept (Some o) (Some m) (Some n) xs p k = k ∙ p

pub appends_nothing : (o : Option (List ℕ)) → Appends o o []
appends_nothing None = tt
appends_nothing (Some xs) = sym (append-nil xs)

pub keeps : (o : Option (List ℕ)) → Keeps o o
keeps None = tt
keeps (Some xs) = refl

-- what `?` returns of a `Fault`
pub handed_on : {A : Type 0} (r : Result A Fault) (f : Fault) → IsErrAnd r (λ g. g ≡ f) → r ≡ Err f
handed_on (Ok a) f e = absurd e
handed_on (Err g) f e = ap Err e

take_both : (xs ys : List ℕ) (k : ℕ) → take (length xs + k) (xs ++ ys) ≡ xs ++ take k ys
take_both [] ys k = ap (λ n. take n ys) (zero-add k)
take_both (x ∷ xs) ys k = let e : length (x ∷ xs) + k ≡ suc (length xs + k) = omega arith in ap (λ n. take n (x ∷ (xs ++ ys))) e ∙ ap (λ t. x ∷ t) (take_both xs ys k)

-- a prefix after what was written before
pub front_behind : (o m n : Option (List ℕ)) (done text : List ℕ) → Appends o m done → AppendsFront m n text → AppendsFront o n (done ++ text)
front_behind o m n done text a f =
    let A : List ℕ → Type 0 = λ t. Appends o n t in
    (length done + f.0, omega (arith, length-append done text, f.1), subst A (sym (take_both done text f.0)) (appends_both o m n done (take f.0 text) a f.2))

-- the text of some intervals and of others
pub text_both : (is js : List (Interval Plain)) (a b : List ℕ) → IsLogText is a → IsLogText js b → IsLogText (is ++ js) (a ++ b)
text_both [] js a b p q = rw p q
text_both (i ∷ is) js a b (line, rest, t, p, e) q = (line, rest ++ b, t, text_both is js rest b p q, ap (λ x. x ++ b) e ∙ append_assoc line rest b)

-- the text of intervals is written
abbrev pub Wrote : List (Interval Plain) → Option (List ℕ) → Option (List ℕ) → Type 0
Wrote is old new = (text : List ℕ) × IsLogText is text × Appends old new text

wrote_both : (is js : List (Interval Plain)) (o m n : Option (List ℕ)) → Wrote is o m → Wrote js m n → Wrote (is ++ js) o n
wrote_both is js o m n p q = (p.0 ++ q.0, text_both is js p.0 q.0 p.1 q.1, appends_both o m n p.0 q.0 p.2 q.2)

-- a run fails, whatever follows
abbrev pub Stops : {M : Type 0} → (M → Run) → Option (List ℕ) → Option (List ℕ) → Cause → Fault → Type 0
Stops whole old new c f = Fails (whatever_follows (λ more. as_reached (whole more))) old new c f

-- what fails after some text that is written
pub fails_on : (A B : Outputs) (o m n : Option (List ℕ)) (done : List ℕ) (f : Fault) (c : Cause) → Appends o m done
    → ((text : List ℕ) → A.whole text (Some f) → B.whole (done ++ text) (Some f)) → ((text : List ℕ) → A.early text → B.early (done ++ text))
    → ((text : List ℕ) → A.begun text → AppendsFront m n text → B.begun (done ++ text)) → Fails A m n c f → Fails B o n c f
fails_on A B o m n done f Resource a whole early begun x = (done ++ x.0, early x.0 x.1, appends_both o m n done x.0 a x.2)
fails_on A B o m n done f Output a whole early begun x = (done ++ x.0, begun x.0 x.1 x.2, front_behind o m n done x.0 a x.2)
fails_on A B o m n done f Input a whole early begun x = (done ++ x.0, whole x.0 x.1, appends_both o m n done x.0 a x.2)
fails_on A B o m n done f Misuse a whole early begun x = x

prepend_both : (is js : List (Interval Plain)) (r : Run) → prepend is (prepend js r) ≡ prepend (is ++ js) r
prepend_both is js r = ap (λ x. record { intervals = x; ended = r.ended }) (sym (append_assoc is js r.intervals))

-- nothing is run yet
pub begin : {M : Type 0} (whole : M → Run) (o : Option (List ℕ)) → IsStep {A = Unit {0}} whole whole o o (Ok tt)
begin whole o = ([], ([], refl, appends_nothing o), λ x. refl)

-- one part, and then another: `pre` is what follows of the second if `x` follows of both
module _ {M N : Type 0} (whole : M → Run) (middle onward : N → Run) (pre : M → N) (o m n : Option (List ℕ)) (p : IsStep {A = Unit {0}} whole (λ x. middle (pre x)) o m (Ok tt)) where
  ends : (fault : Option Fault) (text : List ℕ) → ((y : N) → Logged (middle y) text fault) → (x : M) → Logged (whole x) (p.1.0 ++ text) fault
  ends fault text l x =
      let R : Run → Type 0 = λ r. Logged r (p.1.0 ++ text) fault in
      let y = l (pre x) in subst R (sym (p.2 x)) (text_both p.0 (middle (pre x)).intervals p.1.0 text p.1.1 y.0, y.1)

  first : (text : List ℕ) → ((y : N) → LoggedFirst (middle y) text) → (x : M) → LoggedFirst (whole x) (p.1.0 ++ text)
  first text l x =
      let y = l (pre x) in
      let e = ap (λ (r : Run). r.intervals) (p.2 x) ∙ ap (λ is. p.0 ++ is) y.2 ∙ sym (append_assoc p.0 y.0 y.1) in
      (p.0 ++ y.0, y.1, e, text_both p.0 y.0 p.1.0 text p.1.1 y.3)

  pub and_then : {A : Type 0} (r : Result A Fault) → IsStep middle onward m n r → IsStep whole (λ x. onward (pre x)) o n r
  and_then (Ok a) q = (p.0 ++ q.0, wrote_both p.0 q.0 o m n p.1 q.1, λ x. p.2 x ∙ ap (prepend p.0) (q.2 (pre x)) ∙ prepend_both p.0 q.0 (onward (pre x)))
  and_then (Err f) q =
      fails_on (whatever_follows (λ y. as_reached (middle y))) (whatever_follows (λ x. as_reached (whole x))) o m n p.1.0 f (cause_of f) p.1.2 (ends (Some f)) first (λ text l _. first text l) q

-- what goes on stops if memory runs out or the reader fails
pub cut_short : {M : Type 0} (whole onward : M → Run) (o m : Option (List ℕ)) (f : Fault) → cause_of f ≡ Resource → IsStep {A = Unit {0}} whole onward o m (Ok tt) → Stops whole o m (cause_of f) f
cut_short whole onward o m f e p = let s : Stops whole o m Resource f = (p.1.0, (λ x. (p.0, (onward x).intervals, ap (λ (r : Run). r.intervals) (p.2 x), p.1.1)), p.1.2) in rw e s

-- one line more
pub one_line : {A : Type 0} (log : Bool) (whole : List (ℕ × List ℕ) → Run) (h new : Plain) (it rest : List (ℕ × List ℕ)) (x : ℕ × List ℕ) (o m n : Option (List ℕ)) (r : Result A Fault) → IsStep {A = Unit {0}} whole (λ more. lines_run log h (it ++ more)) o m (Ok tt)
    → it ≡ x ∷ rest → IsStep (λ more. lines_run log h (x ∷ more)) (lines_run log new) m n r → IsStep whole (λ more. lines_run log new (rest ++ more)) o n r
one_line log whole h new it rest x o m n r p e q =
    let F : List (ℕ × List ℕ) → Type 0 = λ l. IsStep {A = Unit {0}} whole (λ more. lines_run log h (l ++ more)) o m (Ok tt) in
    and_then whole (λ more. lines_run log h (x ∷ more)) (lines_run log new) (λ more. rest ++ more) o m n (subst F e p) r q

-- a line by its command
pub command_line : (is_log : Bool) (h : Plain) (k : ℕ) (line : List ℕ) (more : List (ℕ × List ℕ)) (c : Command) → command_of line ≡ Some c → lines_run is_log h ((k, line) ∷ more) ≡ run_command is_log k h (Some c) (λ g. lines_run is_log g more)
unfolding command_of_name
command_line is_log h k [] more c e = absurd (let f : None ≡ Some c = e in cc)
command_line is_log h k (b ∷ line) more c e = rw e refl

-- a line without a command
pub other_line : (is_log : Bool) (h : Plain) (k : ℕ) (line : List ℕ) (more : List (ℕ × List ℕ)) → (length line == 0) ≡ false → command_of line ≡ None → lines_run is_log h ((k, line) ∷ more) ≡ ended_by (Err (NotACommand k))
other_line is_log h k [] more n e = absurd (let f : true ≡ false = n in cc)
other_line is_log h k (b ∷ line) more n e = rw e refl

-- the line of a call
pub call_line : (is_log : Bool) (h new : Plain) (k : ℕ) (line : List ℕ) (more : List (ℕ × List ℕ)) (call : Call ℕ) → command_of line ≡ Some (Apply call) → new ≡ after_call (2 ^ 64 - 1) (λ n. n) call h
    → lines_run is_log h ((k, line) ∷ more) ≡ lines_run is_log new more
call_line is_log h new k line more call e d = command_line is_log h k line more (Apply call) e ∙ ap (λ g. lines_run is_log g more) (sym d)

module _ (k : ℕ) (h : Plain) (start duration : ℕ) (tag : Option (List ℕ)) (o n : Option (List ℕ)) where
  abbrev Whole : (Plain → Run) → Run
  Whole = run_end k h start duration tag

  abbrev this : Interval Plain
  this = record { holds = h; tag = tag; start = start; duration = duration }

  pub end_written : IsPlain (2 ^ 64 - 1) h → (text : List ℕ) × IsIntervalText IsV2 h tag (start * 1_000_000) (duration * 1_000_000) 1 text × Appends o n text → IsStep {A = Unit {0}} Whole (λ (onward : Plain → Run). onward (after_reset h)) o n (Ok tt)
  end_written p (text, t, a) = (this ∷ [], (text, (text, [], t, refl, sym (append-nil text)), a), λ onward. rw (bytes_not_great (2 ^ 64 - 1) h t.0 p t.1) refl)

  pub end_failed : (f : Fault) → IsPlain (2 ^ 64 - 1) h → (text : List ℕ) × IsIntervalText IsV2 h tag (start * 1_000_000) (duration * 1_000_000) 1 text × AppendsFront o n text → Stops Whole o n Output f
  end_failed f p (text, t, a) =
      (text, (λ onward. (this ∷ [], (onward (after_reset h)).intervals, rw (bytes_not_great (2 ^ 64 - 1) h t.0 p t.1) refl, (text, [], t, refl, sym (append-nil text)))), a)

  pub end_refused : HasTooGreatCount h → Keeps o n → Stops Whole o n Input (NotWritten k (SerializeError CountNotSerializable))
  end_refused g e = ([], (λ onward. rw (one_too_great h g) (refl, refl)), appends_kept o o n [] (appends_nothing o) e)

-- nothing is written, and memory runs out
pub short : {M : Type 0} (whole : M → Run) (o n : Option (List ℕ)) (f : Fault) → cause_of f ≡ Resource → Keeps o n → Stops whole o n (cause_of f) f
short whole o n f e k = let s : Stops whole o n Resource f = ([], (λ x. ([], (whole x).intervals, refl, refl)), appends_kept o o n [] (appends_nothing o) k) in rw e s

-- nothing is written, and the rest follows
pub next_line : {M A : Type 0} (whole onward : M → Run) (o : Option (List ℕ)) (a : A) → ((x : M) → whole x ≡ onward x) → IsStep whole onward o o (Ok a)
next_line whole onward o a e = ([], ([], refl, appends_nothing o), λ x. e x)

pub no_command : {M : Type 0} (whole : M → Run) (k : ℕ) (o : Option (List ℕ)) → ((x : M) → whole x ≡ ended_by (Err (NotACommand k))) → Stops whole o o Input (NotACommand k)
no_command whole k o e = ([], (λ x. rw (e x) (refl, refl)), appends_nothing o)

-- ---- memory that lines need

-- a line by its command
pub command_needs : (is_log : Bool) (h : Plain) (k : ℕ) (line : List ℕ) (more : List (ℕ × List ℕ)) (c : Command) → command_of line ≡ Some c → CommandNeeds is_log h (Some c) (λ g. LinesNeed is_log g more) → LinesNeed is_log h ((k, line) ∷ more)
unfolding command_of_name
command_needs is_log h k [] more c e n = absurd (let f : None ≡ Some c = e in cc)
command_needs is_log h k (b ∷ line) more c e n = rw e n

-- a call that returned an error, and one after which more is needed
pub call_refused : (is_log : Bool) (h : Plain) (k : ℕ) (line : List ℕ) (more : List (ℕ × List ℕ)) (call : Call ℕ) (e : CallError) → command_of line ≡ Some (Apply call) → h.auto_resize ≡ true → IsCallError h call e → LinesNeed is_log h ((k, line) ∷ more)
call_refused is_log h k line more call e c g r = command_needs is_log h k line more (Apply call) c (inl (e, r, g))

pub call_passed : (is_log : Bool) (h new : Plain) (k : ℕ) (line : List ℕ) (more : List (ℕ × List ℕ)) (call : Call ℕ) → command_of line ≡ Some (Apply call) → new ≡ after_call (2 ^ 64 - 1) (λ n. n) call h → LinesNeed is_log new more → LinesNeed is_log h ((k, line) ∷ more)
call_passed is_log h new k line more call c d n = command_needs is_log h k line more (Apply call) c (inr (let F : Plain → Type 0 = λ g. LinesNeed is_log g more in subst F d n))

-- whether a part ends or runs out of memory, if it needs it
pub by_need : {A : Type 0} (Now Then : List (ℕ × List ℕ) → Type 0) (r : Result A Fault) → ((more : List (ℕ × List ℕ)) → Now more) → Needs Now Then r
by_need Now Then (Ok a) w = λ more n. w more
by_need Now Then (Err NoMemory) w = w
by_need Now Then (Err f) w = tt

-- one part, and then another: `pre` is what follows of the second if `more` follows of both
pub needs_up : (A B : Type 0) (Now Middle Then Last : List (ℕ × List ℕ) → Type 0) (pre : List (ℕ × List ℕ) → List (ℕ × List ℕ)) (f : Fault) → ((more : List (ℕ × List ℕ)) → Middle (pre more) → Now more) → Needs {A = A} Middle Then (Err f) → Needs {A = B} Now Last (Err f)
needs_up A B Now Middle Then Last pre NoMemory w n = λ more. w more (n (pre more))
needs_up A B Now Middle Then Last pre f w n = tt

pub interval_same : (writes : Plain → List ℕ → Type 0) (h : Plain) (tag : Option (List ℕ)) (a b c d v w : ℕ) (t : List ℕ) → a ≡ b → c ≡ d → v ≡ w → IsIntervalText writes h tag a c v t → IsIntervalText writes h tag b d w t
interval_same writes h tag a b c d v w t e f g i =
    let A : ℕ → Type 0 = λ x. IsIntervalText writes h tag x c v t in
    let C : ℕ → Type 0 = λ x. IsIntervalText writes h tag b x v t in
    let V : ℕ → Type 0 = λ x. IsIntervalText writes h tag b d x t in
    subst V g (subst C f (subst A e i))

-- the rest of an input, of which this was read: all of the input is both
pub rest_of : (o m : Option (List ℕ)) (read : List ℕ) → Consumes o m read → (rest : List ℕ) × IfSome o (λ all. read ++ rest ≡ all)
rest_of None m read h = ([], tt)
rest_of (Some all) None read h = absurd h
rest_of (Some all) (Some rest) read h = (rest, sym h)

-- the same at its end
pub all_of : (o m : Option (List ℕ)) (read : List ℕ) → Consumes o m read → IsAtEnd m → IfSome o (λ all. read ++ [] ≡ all)
all_of None m read h e = tt
all_of (Some all) None read h e = absurd h
all_of (Some all) (Some rest) read h e = let F : List ℕ → Type 0 = λ r. all ≡ read ++ r in sym (subst F e h)

-- a read that returned 0 bytes
pub none_read : (o l m : Option (List ℕ)) (read bytes : List ℕ) (count : ℕ) → Consumes o l read → Consumes l m (take count bytes) → count ≡ 0 → Consumes o m read
none_read o l m read bytes count p q e =
    let F : ℕ → Type 0 = λ k. Consumes l m (take k bytes) in
    let G : List ℕ → Type 0 = λ t. Consumes o m t in
    let h : Consumes l m [] = subst F e q in
    subst G (append-nil read) (Consumes-trans o l m read [] p h)

pub some_input : (o : Option (List ℕ)) → (x : List ℕ) × IfSome o (λ bytes. x ≡ bytes)
some_input None = ([], tt)
some_input (Some xs) = (xs, refl)

-- no line is run yet, and memory runs out
pub unstarted : (run : List ℕ → Run) (i o : Option (List ℕ)) → OnInput i (λ input. RunsAll (run input) o o (Err NoMemory))
unstarted run i o = let x = some_input i in (x.0, x.1, (([], ([], (run x.0).intervals, refl, refl), appends_nothing o), tt))

read_by : (m : Option (List ℕ)) (c : Cause) → IsAtEnd m → ReadsTo (λ _. Unit {0}) m c
read_by m Resource e = tt
read_by m Output e = tt
read_by m Input e = e
read_by m Misuse e = tt

pub read_all : (m : Option (List ℕ)) (f : Fault) → IsAtEnd m → ReadsTo (λ _. Unit {0}) m (cause_of f)
read_all m f e = read_by m (cause_of f) e

pub read_to : (m : Option (List ℕ)) (f : Fault) → cause_of f ≡ Resource → ReadsTo (λ _. Unit {0}) m (cause_of f)
read_to m f e = rw e tt

-- a run that failed whatever follows, and one that went on to its end
pub at_rest : {M : Type 0} (whole : M → Run) (x : M) (o m : Option (List ℕ)) (c : Cause) (f : Fault) → Stops whole o m c f → Fails (as_reached (whole x)) o m c f
at_rest whole x o m c f p =
    fails_on (whatever_follows (λ y. as_reached (whole y))) (as_reached (whole x)) o o m [] f c (appends_nothing o) (λ text l. l x) (λ text l. l x) (λ text l _. l x) p

at_end : {A : Type 0} (run : Run) (last : Plain) (o m : Option (List ℕ)) (r : Result A Fault) → IsStep {M = Unit {0}} (λ _. run) (λ _. ended_by (Ok last)) o m r → RunsAll run o m (result_map_both (λ _. last) (λ f. f) r)
at_end run last o m (Ok a) (is, wrote, e) =
    let R : Run → Type 0 = λ r. RunsAll r o m (Ok last) in
    let I : List (Interval Plain) → Type 0 = λ is. IsLogText is wrote.0 in subst R (sym (e tt)) ((wrote.0, (subst I (sym (append-nil is)) wrote.1, refl), wrote.2), refl)
at_end run last o m (Err f) p = (at_rest (λ _. run) tt o m (cause_of f) f p, tt)

-- a `Fault` that is returned, or one of the reader in place of one of the input
told_at : (run : Run) (o n : Option (List ℕ)) (f g : Fault) → (g ≡ f) ⊎ ((cause_of f ≡ Input) × (cause_of g ≡ Resource)) → Fails (as_reached run) o n (cause_of f) f → Fails (as_reached run) o n (cause_of g) g
told_at run o n f g (inl e) a = let F : Fault → Type 0 = λ x. Fails (as_reached run) o n (cause_of x) x in subst F (sym e) a
told_at run o n f g (inr (p, q)) a =
    let F : Cause → Type 0 = λ c. Fails (as_reached run) o n c f in
    let b = subst F p a in
    let s : Fails (as_reached run) o n Resource g = (b.0, (run.intervals, [], sym (append-nil run.intervals), b.1.0), b.2) in rw q s

-- the lines of what was read were run, but for what is carried on: i and j are what the reader had and has, o and m what the writer had and has
pub record Streamed (log : Bool) (begins now : Plain) (number : ℕ) (carry : List ℕ) (i j o m : Option (List ℕ)) : Type 0 where
  pub read : List ℕ
  pub consumed : Consumes i j read
  pub goes : IsStep {A = Unit {0}} (λ rest. lines_run log begins (number_lines 1 (Some (read ++ rest)))) (λ rest. lines_run log now (number_lines number (Some (carry ++ rest)))) o m (Ok tt)

pub started : (log : Bool) (begins : Plain) (i o : Option (List ℕ)) (carry : List ℕ) → carry ≡ [] → Streamed log begins begins 1 carry i i o o
started log begins i o carry e =
    let S : List ℕ → Type 0 = λ t. Streamed log begins begins 1 t i i o o in
    subst S (sym e) (record { read = []; consumed = Consumes-nil i; goes = begin (λ rest. lines_run log begins (number_lines 1 (Some rest))) o })

module _ {log : Bool} {begins now : Plain} {number : ℕ} {carry : List ℕ} {i j o m : Option (List ℕ)} (s : Streamed log begins now number carry i j o m) where
  abbrev run : List ℕ → Run
  run input = lines_run log begins (number_lines 1 (Some input))

  -- a piece without an LF
  pub carried : (k : Option (List ℕ)) (piece lines : List ℕ) → Consumes j k piece → carry ++ piece ≡ lines ++ [] → Streamed log begins now number lines i k o m
  carried k piece lines c e = record {
    read = s.read ++ piece;
    consumed = Consumes-trans i j k s.read piece s.consumed c;
    goes = (
      s.goes.0,
      s.goes.1,
      λ rest.
          ap run (append_assoc s.read piece rest) ∙ s.goes.2 (piece ++ rest)
          ∙ ap (λ t. prepend s.goes.0 (lines_run log now (number_lines number (Some t)))) (sym (append_assoc carry piece rest) ∙ ap (λ t. t ++ rest) (e ∙ append-nil lines)),
    );
  }

  -- a piece with an LF: the lines up to there, and then those after it
  module _ (k n : Option (List ℕ)) (piece lines tail : List ℕ) (c : Consumes j k piece) (e : carry ++ piece ≡ lines ++ 10 ∷ tail) where
    abbrev next : ℕ
    next = number + length (number_lines number (Some lines))

    further : {A : Type 0} (r : Result A Fault) (then : Plain) → IsStep (rest_run log now number (Some lines)) (lines_run log then) m n r
        → IsStep (λ rest. run ((s.read ++ piece) ++ rest)) (λ rest. lines_run log then (number_lines next (Some (tail ++ rest)))) o n r
    further r then q =
        let numbered : (rest : List ℕ) → number_lines number (Some (carry ++ (piece ++ rest))) ≡ number_lines number (Some lines) ++ number_lines next (Some (tail ++ rest)) =
        λ rest. ap (λ t. number_lines number (Some t)) (sym (append_assoc carry piece rest) ∙ ap (λ t. t ++ rest) e ∙ append_assoc lines (10 ∷ tail) rest) ∙ numbered_end number lines (tail ++ rest) in
        and_then (λ rest. run ((s.read ++ piece) ++ rest)) (rest_run log now number (Some lines)) (lines_run log then) (λ rest. number_lines next (Some (tail ++ rest))) o m n
        (s.goes.0, s.goes.1, λ rest. ap run (append_assoc s.read piece rest) ∙ s.goes.2 (piece ++ rest) ∙ ap (λ t. prepend s.goes.0 (lines_run log now t)) (numbered rest)) r q

    pub passed : (then : Plain) (k' : ℕ) → k' ≡ next → IsStep {A = ℕ} (rest_run log now number (Some lines)) (lines_run log then) m n (Ok k') → Streamed log begins then k' tail i k o n
    passed then k' f q = record {
      read = s.read ++ piece;
      consumed = Consumes-trans i j k s.read piece s.consumed c;
      goes = let G : ℕ → Type 0 = λ x. IsStep {A = Unit {0}} (λ rest. run ((s.read ++ piece) ++ rest)) (λ rest. lines_run log then (number_lines x (Some (tail ++ rest)))) o n (Ok tt) in subst G (sym f) (further {A = Unit {0}} (Ok tt) then q);
    }

    pub stopped : (f g : Fault) (then : Plain) → (g ≡ f) ⊎ ((cause_of f ≡ Input) × (cause_of g ≡ Resource)) → IsStep {A = ℕ} (rest_run log now number (Some lines)) (lines_run log then) m n (Err f)
        → OnInput i (λ input. RunsAll (run input) o n (Err g))
    stopped f g then t q =
        let r = rest_of i k (s.read ++ piece) (Consumes-trans i j k s.read piece s.consumed c) in
        let input = (s.read ++ piece) ++ r.0 in
        (input, r.1, (told_at (run input) o n f g t (at_rest (λ rest. run ((s.read ++ piece) ++ rest)) r.0 o n (cause_of f) f (further {A = ℕ} (Err f) then q)), tt))

  -- the last lines: the input ends with what is carried on
  pub finish : {A : Type 0} (r : Result A Fault) (then : Plain) (lines : List ℕ) (k n : Option (List ℕ)) (count : ℕ) (bytes : List ℕ) → lines ≡ carry → Consumes j k (take count bytes) → count ≡ 0 → IsAtEnd k
      → IsStep (rest_run log now number (Some lines)) (lines_run log then) m n r → OnInput i (λ input. RunsAll (run input) o n (result_map_both (λ _. then) (λ f. f) r))
  finish r then lines k n count bytes e c none d g =
      let l : number_lines number (Some (carry ++ [])) ≡ number_lines number (Some lines) ++ [] = ap (λ t. number_lines number (Some t)) (append-nil carry ∙ sym e) ∙ sym (append-nil (number_lines number (Some lines))) in
      let p : IsStep {M = Unit {0}} {A = Unit {0}} (λ _. run (s.read ++ [])) (λ _. rest_run log now number (Some lines) []) o m (Ok tt) = (s.goes.0, s.goes.1, λ x. s.goes.2 [] ∙ ap (λ t. prepend s.goes.0 (lines_run log now t)) l) in
      (s.read ++ [], all_of i k s.read (none_read i j k s.read bytes count s.consumed c none) d, at_end (run (s.read ++ [])) then o n r (and_then {M = Unit {0}} (λ _. run (s.read ++ [])) (rest_run log now number (Some lines)) (lines_run log then) (λ _. []) o m n p r g))

  -- the reader has no more bytes, or memory runs out
  pub unread_rest : (f : Fault) → cause_of f ≡ Resource → OnInput i (λ input. RunsAll (run input) o m (Err f))
  unread_rest f e =
      let r = rest_of i j s.read s.consumed in
      let whole : List ℕ → Run = λ rest. run (s.read ++ rest) in
      (s.read ++ r.0, r.1, (at_rest whole r.0 o m (cause_of f) f (cut_short whole (λ rest. lines_run log now (number_lines number (Some (carry ++ rest)))) o m f e s.goes), tt))

-- the same of an equal histogram, and of equal contents of the writer
pub moved : (P : Plain → Option (List ℕ) → Option (List ℕ) → Type 0) (h k : Plain) (o p n q : Option (List ℕ)) → h ≡ k → o ≡ p → n ≡ q → P h o n → P k p q
moved P h k o p n q d e f a =
    let H : Plain → Type 0 = λ x. P x o n in
    let O : Option (List ℕ) → Type 0 = λ x. P k x n in
    let N : Option (List ℕ) → Type 0 = λ x. P k p x in
    subst N f (subst O e (subst H d a))
