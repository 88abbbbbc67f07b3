-- What an opening with files tells: a text names one list of files, of which one list is given at most; and of one that describes a layout
-- with these the one fault is that there is no memory.
use Rattle.std.proofs.Common.{◌≡◌, ◌≢◌, ◌∙◌, ◌⊎◌, ◌≤◌, inl, inr, ℕ, List, length, sum, Option, None, ap, arith, subst, sym}
use Rattle.xcp_config.specs.ConfigText.{HasLayoutWith, NamesFiles}
use Rattle.xcp_config.specs.FaultNumbers.{number_of}
use Rattle.xcp_config.specs.TableLayout.{File}
use Rattle.xcp_config.specs.declared.config_error.ConfigError.{ConfigError}
use Rattle.xcp_config.specs.declared.config_error.ConfigError.TheVariants.{Text, Missing, Kind, Range, Overlap, TooMany, Memory}
use Rattle.xcp_flash.specs.declared.fault.FlashError.{FlashError}
use Rattle.xcp_flash.specs.declared.fault.FlashError.TheVariants.{Head, Layout, Size, Digest}
use Rattle.xcp_memory.specs.Layout.{LayoutValue}
use Rattle.xcp_c.specs.DataOpenings.{IsFaultOfData, TellsData, TellsDataPages, TellsOther}
use Rattle.xcp_c.specs.GivenFiles.{AreGiven, AreOther, FileNames, files_given, named_count}
use Rattle.xcp_c.specs.OpenValue.{OpenValue}
use Rattle.xcp_c.specs.Openings.{IsFaultBeside, IsFaultIn, IsTextFault, IsLayoutText, TellsPages, TellsPagesWith}
use Rattle.xcp_c.specs.StoredPages.{number_of_stored}
use Rattle.xcp_c.proofs.OpeningLemmas.{tells_each}

one_names : (text : List ℕ) (a b : FileNames) → NamesFiles text a → NamesFiles text b → a ≡ b
one_names text a b (inl p) (inl q) = cc
one_names text a b (inl p) (inr q) = absurd cc
one_names text a b (inr p) (inl q) = absurd cc
one_names text a b (inr p) (inr q) = cc

one_given : (text sizes bytes : List ℕ) (a b : List File) → AreGiven text sizes bytes a → AreGiven text sizes bytes b → a ≡ b
one_given text sizes bytes a b p q = p.are ∙ ap (λ (names : FileNames). files_given names sizes bytes) (one_names text p.names q.names p.named q.named) ∙ sym q.are

-- files that are given aren't others
not_other : (text sizes bytes : List ℕ) (files : List File) → AreGiven text sizes bytes files → AreOther text sizes bytes → ⊥
not_other text sizes bytes files given (inl less) = less given.all
not_other text sizes bytes files given (inr more) =
    let most : length sizes ≤ named_count more.0 = subst (λ (names : FileNames). length sizes ≤ named_count names) (one_names text given.names more.0 given.named more.1) given.most in
    let less = more.2 in
    omega arith

-- a text has neither of the faults of what is no text
is_text : (text : List ℕ) (n : ℕ) → IsLayoutText text → IsTextFault text n → ⊥
is_text text n ok (inl long) = let most = ok.0 in let more = long.0 in omega arith
is_text text n ok (inr bad) = bad.1 ok.1

-- the numbers of a text's faults
low : (e : ConfigError) → number_of e ≤ 7
low Text = omega arith
low (Missing k) = omega arith
low (Kind k) = omega arith
low (Range k) = omega arith
low (Overlap a b) = omega arith
low (TooMany k) = omega arith
low Memory = omega arith

low_in : (files : List File) (text : List ℕ) (n : ℕ) → IsFaultIn files text n → n ≤ 7
low_in files text n (inl p) = let is = p.1 in omega arith
low_in files text n (inr (inl f)) = let is = f.2 in let most = low f.0 in omega arith
low_in files text n (inr (inr is)) = omega arith

low_stored : (e : FlashError) → number_of_stored e ≤ 15
low_stored Head = omega arith
low_stored Layout = omega arith
low_stored Size = omega arith
low_stored Digest = omega arith

-- a layout's text has no fault
memory_alone : (files : List File) (text : List ℕ) (l : LayoutValue) (n : ℕ) → HasLayoutWith files text l → IsFaultIn files text n → n ≡ 7
memory_alone files text l n has (inl p) = let first = has.document in absurd cc
memory_alone files text l n has (inr (inl f)) =
    let first = has.document in
    let other = f.1.document in
    let passes = has.passes in
    let fails = f.1.fails in
    absurd cc
memory_alone files text l n has (inr (inr is)) = is

module _ (text sizes bytes : List ℕ) where
  -- of a fault
  other_of_fault : (n : ℕ) → IsFaultOfData text sizes bytes n → IsLayoutText text → AreOther text sizes bytes → (n ≡ 18) ⊎ ((sum sizes ≡ length bytes) × (n ≡ 7))
  other_of_fault n (inl bad) ok other = absurd (is_text text n ok bad)
  other_of_fault n (inr (inl is)) ok other = inl is.2
  other_of_fault n (inr (inr (inl none))) ok other = inr (none.1, none.2)
  other_of_fault n (inr (inr (inr f))) ok other = absurd (not_other text sizes bytes f.0 f.2 other)

  only_of_fault : (n : ℕ) → IsFaultOfData text sizes bytes n → n ≡ 18 → IsLayoutText text × AreOther text sizes bytes
  only_of_fault n (inl (inl long)) is = let also = long.1 in absurd (omega arith)
  only_of_fault n (inl (inr bad)) is = let also = bad.2 in absurd (omega arith)
  only_of_fault n (inr (inl other)) is = (other.0, other.1)
  only_of_fault n (inr (inr (inl none))) is = let also = none.2 in absurd (omega arith)
  only_of_fault n (inr (inr (inr f))) is = let most = low_in f.0 text n f.3 in absurd (omega arith)

  pub fault_tells_other : (n : ℕ) → IsFaultOfData text sizes bytes n → TellsOther text sizes bytes n
  fault_tells_other n fault = record { other = other_of_fault n fault; only = only_of_fault n fault }

  -- the one fault where files are given, with which the text describes a layout
  memory_of_fault : (n : ℕ) (files : List File) (l : LayoutValue) → IsFaultOfData text sizes bytes n → AreGiven text sizes bytes files → IsLayoutText text → HasLayoutWith files text l → n ≡ 7
  memory_of_fault n files l (inl bad) given ok has = absurd (is_text text n ok bad)
  memory_of_fault n files l (inr (inl other)) given ok has = absurd (not_other text sizes bytes files given other.1)
  memory_of_fault n files l (inr (inr (inl none))) given ok has = none.2
  memory_of_fault n files l (inr (inr (inr f))) given ok has =
      memory_alone files text l n has (subst (λ (fs : List File). IsFaultIn fs text n) (one_given text sizes bytes f.0 files f.2 given) f.3)

  pub fault_tells : (n : ℕ) → IsFaultOfData text sizes bytes n → TellsData text sizes bytes n None
  fault_tells n fault = (fault_tells_other n fault, (λ files given l ok has. inl (memory_of_fault n files l fault given ok has)))

  pub fault_tells_pages : (file : List ℕ) (n : ℕ) → IsFaultOfData text sizes bytes n → TellsDataPages text sizes bytes file n None
  fault_tells_pages file n fault = (
    fault_tells_other n fault,
    (λ files given l ok has.
        let is = memory_of_fault n files l fault given ok has in
        ((λ pages sized file_is. inl is), (λ e f. inl is))),
  )

  -- another number, where files are given
  given_tells_other : (n : ℕ) (files : List File) → AreGiven text sizes bytes files → n ≢ 18 → TellsOther text sizes bytes n
  given_tells_other n files given differs = record {
    other = λ ok other. absurd (not_other text sizes bytes files given other);
    only = λ is. absurd (differs is);
  }

  -- what is told of the stored pages beside the layout
  pub pages_tell : (file : List ℕ) (n : ℕ) (slave : Option OpenValue) (l : LayoutValue) → (files : List File) × AreGiven text sizes bytes files × IsLayoutText text × HasLayoutWith files text l → n ≢ 18 → TellsPages l text file n slave → TellsDataPages text sizes bytes file n slave
  pages_tell file n slave l (files, given, ok, has) differs tells = (
    given_tells_other n files given differs,
    (λ others also. subst (λ (fs : List File). TellsPagesWith fs text file n slave) (one_given text sizes bytes files others given also) (tells_each files text file l n slave has tells)),
  )

-- the numbers of a fault beside a layout
pub no_other : (l : LayoutValue) (text file : List ℕ) (n : ℕ) → IsFaultBeside l text file n → n ≢ 18
no_other l text file n f also = let is = f.2 in let most = low_stored f.0 in omega arith
