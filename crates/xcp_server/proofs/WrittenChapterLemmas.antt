-- By which way excerpts of chapters go, and what a scribe was given of them.
use Rattle.std.proofs.Common.{◌≡◌, ◌≤◌, ℕ, List, [], ◌∷◌, ◌++◌, length, map, take, refl, sym, ap, ◌∙◌, subst, append_assoc, length-append, arith}
use Rattle.std.proofs.Math.Seq.{take-append_seam}
use Rattle.std.proofs.lemmas.List.{length-map, take-map}
use Rattle.std.specs.Prelude.{Option, None}
use Rattle.std.specs.List.{AllZip}
use mathlib.Core.List.{IsPrefix}
use Rattle.xcp_memory.specs.Layout.{LayoutValue}
use Rattle.xcp_locked.specs.Excerpts.{ChaptersValue, ExcerptValue, Way, excerpt_of, excerpts_of, none_cut}
use Rattle.xcp_locked.specs.LockedSlave.{ChapterValue}
use Rattle.xcp_locked.specs.PairedLists.{EachFrom}
use Rattle.xcp_locked.specs.TaskOutcome.{DoneAs, IsTaskOf, chapters_of}
use Rattle.xcp_locked.specs.declared.tasks.Done.{Done}
use Rattle.xcp_locked.specs.declared.tasks.Task.{Task}
use Rattle.xcp_locked.specs.declared.worker.Worker.{Worker}
use Rattle.xcp_server.specs.Report.{given_in}
use Rattle.xcp_server.specs.private.WrittenChapters.{first_way, given_of}

-- The first worker's chapters go by this way, and nobody's behind it do; before the first one is there, this way is still to be given.
abbrev pub GoesTo : {N : Type 0} → Option Way → Option Way → List (Worker N) → Type 0
GoesTo first now [] = now ≡ first
GoesTo first now (w ∷ workers) = (w.chapters.way ≡ first) × (now ≡ None)

-- one worker more
pub goes_on : {N : Type 0} (first now : Option Way) (workers more : List (Worker N)) (w : Worker N) → GoesTo first now workers → w.chapters ≡ none_cut now → more ≡ workers ++ w ∷ [] → GoesTo first None more
goes_on first now [] more w goes none is = subst (GoesTo first None) (sym is) (ap (λ (c : ChaptersValue). c.way) none ∙ goes, refl)
goes_on first now (x ∷ workers) more w goes none is = subst (GoesTo first None) (sym is) (goes.0, refl)

-- the first worker's way, or none where there is no worker
pub way_of_first : {N : Type 0} (first now : Option Way) (workers : List (Worker N)) → GoesTo first now workers → (length workers ≡ 0 → first ≡ None) → (chapters_of workers).way ≡ first
way_of_first first now [] goes none = sym (none refl)
way_of_first first now (w ∷ workers) goes none = goes.0

-- the first task's way is its worker's
pub first_way_of : {N G : Type 0} (cycles chapter k : ℕ) (workers : List (Worker N)) (tasks : List (Task N G)) → EachFrom (IsTaskOf cycles chapter) k workers tasks → first_way tasks ≡ (chapters_of workers).way
first_way_of cycles chapter k [] [] h = refl
first_way_of cycles chapter k [] (t ∷ tasks) h = absurd h
first_way_of cycles chapter k (w ∷ workers) [] h = absurd h
first_way_of cycles chapter k (w ∷ workers) (t ∷ tasks) h = ap (λ (x : Worker _). x.chapters.way) h.0.worker

-- and stays so when the task is done
pub way_back : {N G : Type 0} (layout : LayoutValue) (may_end : Type 0) (tasks : List (Task N G)) (done : List (Done N)) → AllZip (DoneAs layout may_end) tasks done → (chapters_of (map (λ d. d.worker) done)).way ≡ first_way tasks
way_back layout may_end [] [] h = refl
way_back layout may_end [] (d ∷ done) h = absurd h
way_back layout may_end (t ∷ tasks) [] h = absurd h
way_back layout may_end (t ∷ tasks) (d ∷ done) h = h.0.cut.way

-- what a scribe is given of chapters is what it is given of their excerpts
pub given_excerpts : (cs : List ChapterValue) → map given_of (excerpts_of cs) ≡ given_in cs
given_excerpts [] = refl
given_excerpts (c ∷ cs) = ap (λ gs. (record { calls = c.entries; last = c.last }) ∷ gs) (given_excerpts cs)

-- a front of a list is what is taken of it
taken_front : {A : Type 0} (xs ys : List A) → IsPrefix xs ys → take (length xs) ys ≡ xs
taken_front xs ys front = ap (λ zs. take (length xs) zs) (sym front.1) ∙ take-append_seam xs front.0

-- a front of chapters' excerpts is what a scribe is given of as many chapters
pub given_front : (es : List ExcerptValue) (cs : List ChapterValue) → IsPrefix es (excerpts_of cs) → map given_of es ≡ given_in (take (length es) cs)
given_front es cs front =
    ap (λ xs. map given_of xs) (sym (taken_front es (excerpts_of cs) front) ∙ take-map excerpt_of (length es) cs) ∙ given_excerpts (take (length es) cs)

-- and no longer than they
pub no_longer : (es : List ExcerptValue) (cs : List ChapterValue) → IsPrefix es (excerpts_of cs) → length es ≤ length cs
no_longer es cs front = let all = ap length front.1 in let whole = length-append es front.0 in let same = length-map cs excerpt_of in omega (arith, all, whole, same)

-- a front of a front is a front
pub front_of_front : {A : Type 0} (xs ys zs : List A) → IsPrefix xs ys → IsPrefix ys zs → IsPrefix xs zs
front_of_front xs ys zs f h = (f.0 ++ h.0, sym (append_assoc xs f.0 h.0) ∙ (ap (λ z. z ++ h.0) f.1 ∙ h.1))
