-- What an opening tells: a text describes one layout at most, and of one that does the one fault is that there is no memory.
use Rattle.std.proofs.Common.{◌≡◌, ◌↔◌, inl, inr, ℕ, List, Option, None, Result, Ok, Err, IsOk, IfOk, IfErr, MatchResult, refl, subst, sym}
use Rattle.sha2.specs.Sha256.{sha256}
use Rattle.xcp_config.specs.ConfigText.{HasLayoutWith}
use Rattle.xcp_config.specs.TableLayout.{File}
use Rattle.xcp_flash.specs.Decided.{pages_decided}
use Rattle.xcp_flash.specs.References.{AreReferences, with_references}
use Rattle.xcp_flash.specs.Restoring.{IsFaultOfBoth}
use Rattle.xcp_flash.specs.declared.fault.FlashError.{FlashError}
use Rattle.xcp_memory.specs.Layout.{LayoutValue}
use Rattle.xcp_c.specs.OpenValue.{OpenValue}
use Rattle.xcp_c.specs.Openings.{IsStoredFile, IsOpening, IsOpeningBy, TellsPages, TellsPagesWith}
use Rattle.xcp_c.specs.StoredPages.{number_of_stored}

one_layout : (files : List File) (text : List ℕ) (l m : LayoutValue) → HasLayoutWith files text l → HasLayoutWith files text m → l ≡ m
one_layout files text l m a b =
    let first = a.document in
    let other = b.document in
    let is = a.is in
    let also = b.is in
    cc

-- what is told of one layout of a text is told of each
pub tells_each : (files : List File) (text file : List ℕ) (l : LayoutValue) (n : ℕ) (slave : Option OpenValue) → HasLayoutWith files text l → TellsPages l text file n slave → TellsPagesWith files text file n slave
tells_each files text file l n slave has tells = λ m ok other. subst (λ (x : LayoutValue). TellsPages x text file n slave) (one_layout files text l m has other) tells

-- what restoring says of a fault, where these are the two digests
pub fault_at : (text file decided digest : List ℕ) (l : LayoutValue) (restored : Result (Unit {0}) FlashError) → decided ≡ sha256 (pages_decided l) → digest ≡ sha256 text
    → ((e : FlashError) → (restored ≡ Err e) ↔ IsFaultOfBoth l decided digest file e) → (e : FlashError) → IsFaultOfBoth l (sha256 (pages_decided l)) (sha256 text) file e → restored ≡ Err e
fault_at text file decided digest l restored is also faults e fault =
    (faults e).1 (subst (λ (d : List ℕ). IsFaultOfBoth l d digest file e) (sym is) (subst (λ (d : List ℕ). IsFaultOfBoth l (sha256 (pages_decided l)) d file e) (sym also) fault))

module _ (text file : List ℕ) (l new : LayoutValue) (restored : Result (List ℕ) ℕ) where
  -- the same of a layout whose pages are restored
  abbrev pub WholeHere : Type 0
  WholeHere = (pages : List (List ℕ)) → AreReferences pages l → IsStoredFile l text file pages → IsOk restored × (new ≡ with_references pages l)

  abbrev pub ToldHere : Type 0
  ToldHere = (e : FlashError) → IsFaultOfBoth l (sha256 (pages_decided l)) (sha256 text) file e → restored ≡ Err (number_of_stored e)

  module _ (whole : WholeHere) (told : ToldHere) where
    -- a file that isn't restored
    pub tells_fault : (n : ℕ) (slave : Option OpenValue) → restored ≡ Err n → TellsPages l text file n slave
    tells_fault n slave err = (
      (λ pages sized file_is.
          let none = subst (λ (r : Result (List ℕ) ℕ). IsOk r) err (whole pages sized file_is).0 in
          absurd cc),
      (λ e fault.
          let found = told e fault in
          let one : n ≡ number_of_stored e = cc in
          inr one),
    )

    -- and one that is
    tells_opened : (d : List ℕ) (slave : Option OpenValue) → restored ≡ Ok d → IsOpening l new slave → TellsPages l text file 0 slave
    tells_opened d slave done opening = (
      (λ pages sized file_is. inr (refl, subst (λ (x : LayoutValue). IsOpening l x slave) (whole pages sized file_is).1 opening)),
      (λ e fault. let found = told e fault in absurd cc),
    )

    -- of what is held then
    pub tells_held : {H : Type 0} (value : H → Option OpenValue) (d : List ℕ) (held : Result H ℕ) → restored ≡ Ok d → d ≡ sha256 (pages_decided l) → IfOk held (λ h. IsOpeningBy d new (value h)) → IfErr held (λ n. n ≡ 7)
        → MatchResult held (λ h. TellsPages l text file 0 (value h)) (λ n. TellsPages l text file n None)
    tells_held value d (Ok h) done is opening memory = tells_opened d (value h) done (subst (λ (x : List ℕ). IsOpeningBy x new (value h)) is opening)
    tells_held value d (Err n) done is opening memory = ((λ pages sized file_is. inl memory), (λ e fault. inl memory))

-- what is told in one way is told in another
pub each : {H E : Type 0} (P Q : H → Type 0) (F R S : E → Type 0) (b : Result H E) → ((h : H) → P h → Q h) → ((e : E) → F e → R e → S e) → IfErr b F → MatchResult b P R → MatchResult b Q S
each P Q F R S (Ok h) f g k p = f h p
each P Q F R S (Err e) f g k p = g e k p
