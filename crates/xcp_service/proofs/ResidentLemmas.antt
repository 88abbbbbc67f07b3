-- A slave that stays, after a chapter was cut off it.
use Rattle.std.proofs.Common.{◌≡◌, ◌++◌, ◌∷◌, [], ℕ, List, Result, Ok, Err, refl, sym, ap, ◌∙◌, subst, append_assoc, append-nil}
use Rattle.std.specs.Prelude.{IfOk, OnErr, false}
use Rattle.std.proofs.lemmas.List.{map-append}
use Rattle.xcp_memory.specs.Layout.{LayoutValue}
use Rattle.xcp_slave.specs.declared.Request.{Request}
use Rattle.xcp_slave.specs.Outcomes.{Answer}
use Rattle.xcp_slave.specs.Run.{Run}
use Rattle.xcp_slave.specs.SlaveValue.{SlaveValue, opening}
use Rattle.xcp_slave.specs.Step.{Answers}
use Rattle.xcp_trace.specs.declared.Entry.{Entry}
use Rattle.xcp_locked.specs.Chapters.{AreJoined, entries_of}
use Rattle.xcp_locked.specs.Journal.{entry, exchanges}
use Rattle.xcp_locked.specs.LockedSlave.{ChapterValue, LockedValue, SameChapter, chapter_of, cut_off}
use Rattle.xcp_locked.specs.PublishingCalls.{AreImages, Publishes}
use Rattle.xcp_locked.proofs.ChapterLemmas.{images_on, run_joined}
use Rattle.xcp_locked.proofs.JournalLemmas.{exchanges_snoc}
use Rattle.xcp_service.specs.Parcels.{ParcelValue, chapters_put, parcel_of_chapter}
use Rattle.xcp_service.specs.Residents.{GoesOn, HasPublished, ResidentValue, with_a_cut}
use Rattle.xcp_service.specs.Storing.{StoresValue, unasked}
use Rattle.xcp_service.proofs.JoinedMoreLemmas.{entries_on, joined_more}
use Rattle.xcp_service.proofs.ParcelLemmas.{chapter_put_more}

-- what was cut off, with one chapter more, leads on to what is left
pub goes_on_more : (layout : LayoutValue) (ps qs : List ParcelValue) (l m : LockedValue) → GoesOn layout (record { locked = l; past = chapters_put ps; sessions = []; stores = unasked false }) → Run l.base (exchanges l.journal) l.slave → m ≡ cut_off l
    → qs ≡ ps ++ parcel_of_chapter (chapter_of l) ∷ [] → AreJoined layout (chapters_put qs) m.chapter m.before m.base
goes_on_more layout ps qs l m joined run cut put =
    subst (λ (cs : List ChapterValue). AreJoined layout cs m.chapter m.before m.base) (sym (ap chapters_put put ∙ chapter_put_more ps (chapter_of l)))
    (subst (λ (z : LockedValue). AreJoined layout (chapters_put ps ++ chapter_of l ∷ []) z.chapter z.before z.base) (sym cut)
    (joined_more layout (chapters_put ps) l.chapter l.before l.base (chapter_of l) joined refl refl refl run))

-- the slave with one chapter more
pub more_is_a_cut : (r : ResidentValue) (ps qs : List ParcelValue) (l m : LockedValue) (seats : List ℕ) (stores : StoresValue) → record { locked = l; past = chapters_put ps; sessions = seats; stores = stores } ≡ r → m ≡ cut_off l → qs ≡ ps ++ parcel_of_chapter (chapter_of l) ∷ []
    → record { locked = m; past = chapters_put qs; sessions = seats; stores = stores } ≡ with_a_cut r
more_is_a_cut r ps qs l m seats stores is cut put =
    let more = ap chapters_put put ∙ chapter_put_more ps (chapter_of l) in
    (λ i. record { locked = cut i; past = more i; sessions = seats; stores = stores }) ∙ ap with_a_cut is

-- a call publishes the image behind it where that differs from the one before it
pub published_more : (layout : LayoutValue) (l m : LockedValue) (past : List ChapterValue) (by : ℕ) (q : Request) (a : Answer) → GoesOn layout (record { locked = l; past = past; sessions = []; stores = unasked false }) → Run l.base (exchanges l.journal) l.slave → Answers l.slave q a m.slave
    → m.journal ≡ l.journal ++ entry by q a ∷ [] → Publishes l m → HasPublished layout (record { locked = l; past = past; sessions = []; stores = unasked false }) → HasPublished layout (record { locked = m; past = past; sessions = []; stores = unasked false })
published_more layout l m past by q a joined run step journal publishes was =
    let e : Entry = entry by q a in
    let es = entries_of past in
    let front = map-append (λ (x : Entry). x.exchange) es l.journal in
    let all : Run (opening layout) (exchanges (es ++ l.journal)) l.slave = subst (λ xs. Run (opening layout) xs l.slave) (sym front) (run_joined (opening layout) l.base l.slave (exchanges es) (exchanges l.journal) joined.run run) in
    let more : exchanges (es ++ m.journal) ≡ exchanges (es ++ l.journal) ++ e.exchange ∷ [] = ap (λ j. exchanges (es ++ j)) journal ∙ (ap exchanges (sym (append_assoc es l.journal (e ∷ []))) ∙ exchanges_snoc (es ++ l.journal) e) in
    subst (λ xs. AreImages (opening layout) xs m.writer.publications) (sym more) (images_on (opening layout) (exchanges (es ++ l.journal)) l.slave e.exchange m.slave l.writer.publications m.writer.publications all step publishes was)

-- the same, whether it was accepted or not
pub published_by : {T E : Type 0} (X : Type 0) (layout : LayoutValue) (r : Result T E) (l m : LockedValue) (past : List ChapterValue) (by : ℕ) (q : Request) (a : T → Answer) → GoesOn layout (record { locked = l; past = past; sessions = []; stores = unasked false }) → Run l.base (exchanges l.journal) l.slave → IfOk r (λ t. Answers l.slave q (a t) m.slave)
    → IfOk r (λ t. m.journal ≡ l.journal ++ entry by q (a t) ∷ []) → IfOk r (λ t. Publishes l m) → OnErr r ((m ≡ l) × X) → HasPublished layout (record { locked = l; past = past; sessions = []; stores = unasked false }) → HasPublished layout (record { locked = m; past = past; sessions = []; stores = unasked false })
published_by X layout (Ok t) l m past by q a joined run step journal publishes same was = published_more layout l m past by q (a t) joined run step journal publishes was
published_by X layout (Err e) l m past by q a joined run step journal publishes same was = subst (λ (z : LockedValue). HasPublished layout (record { locked = z; past = past; sessions = []; stores = unasked false })) (sym same.0) was

-- a call leaves the chapters that were cut off, and where the open one begins
pub goes_on_same : (layout : LayoutValue) (l m : LockedValue) (past : List ChapterValue) → SameChapter l m → GoesOn layout (record { locked = l; past = past; sessions = []; stores = unasked false }) → GoesOn layout (record { locked = m; past = past; sessions = []; stores = unasked false })
goes_on_same layout l m past same h =
    subst (λ (v : SlaveValue). AreJoined layout past m.chapter m.before v) (sym same.base)
    (subst (λ (n : ℕ). AreJoined layout past m.chapter n l.base) (sym same.before) (subst (λ (k : ℕ). AreJoined layout past k l.before l.base) (sym same.chapter) h))

-- a cut publishes nothing, and leaves the calls
pub published_cut : (layout : LayoutValue) (ps qs : List ParcelValue) (l m : LockedValue) → HasPublished layout (record { locked = l; past = chapters_put ps; sessions = []; stores = unasked false }) → m ≡ cut_off l → qs ≡ ps ++ parcel_of_chapter (chapter_of l) ∷ []
    → HasPublished layout (record { locked = m; past = chapters_put qs; sessions = []; stores = unasked false })
published_cut layout ps qs l m was cut put =
    let same : entries_of (chapters_put qs) ++ [] ≡ entries_of (chapters_put ps) ++ l.journal = append-nil (entries_of (chapters_put qs)) ∙ (ap entries_of (ap chapters_put put ∙ chapter_put_more ps (chapter_of l)) ∙ entries_on (chapters_put ps) (chapter_of l)) in
    subst (λ (z : LockedValue). HasPublished layout (record { locked = z; past = chapters_put qs; sessions = []; stores = unasked false })) (sym cut)
    (subst (λ es. AreImages (opening layout) (exchanges es) l.writer.publications) (sym same) was)
