-- The line that says that nothing was found is told exactly where nothing was.
use Rattle.std.proofs.Common.{◌≡◌, ◌<◌, ◌+◌, ◌≢◌, ℕ, Bool, true, false, cond, List, [], ◌∷◌, ◌++◌, length, codes, Option, None, Some, IfSome, refl, sym, inl, inr, ⊎_elim, ◌∙◌, ap, arith, get_or, nat_eq}
use Rattle.std.proofs.lemmas.Bool.{ne_eqb, cond-false}
use Rattle.xcp_config.specs.declared.config_error.ConfigError.{ConfigError}
use Rattle.xcp_describe.specs.declared.refusal.DescribeError.{DescribeError}
use Rattle.xcp_describe.specs.declared.refusal.DescribeError.TheVariants.{Host, Program, Parameter, Measurement}
use Rattle.toml.specs.Data.{table}
use Rattle.xcp_config.specs.TableLayout.{File}
use Rattle.xcp_config.specs.declared.config_error.ConfigError.TheVariants.{Text}
use Rattle.xcp_describe.specs.declared.findings.Findings.{Findings}
use Rattle.xcp_describe.specs.Findings.{IsChecked, IsEntryFault, IsFound, IsUnreadable}
use Rattle.xcp_describe.specs.UnreadKeys.{unread_keys}
use Rattle.xcp_describe.specs.FindingsText.{IsPlainText, IsSyntaxLine, clean_text, no_utf8_text, fault_line, findings_text, line_if, finding_lines, or_clean, refused_line, unread_line}
use Rattle.xcp_describe.specs.Places.{PlacedKey}

-- lines that begin with another byte than the clean text are another text
begins : (xs : List ℕ) → get_or xs 0 110 ≢ 110 → or_clean xs ≡ clean_text → ⊥
begins [] n h = n refl
begins (c ∷ cs) n h =
    let some : nat_eq (length (c ∷ cs)) 0 ≡ false = ne_eqb (length (c ∷ cs)) 0 (λ e. absurd (omega (arith, e))) in
    let same : c ∷ cs ≡ clean_text = sym (cond-false _ clean_text (c ∷ cs) some) ∙ h in
    n (ap (λ xs. get_or xs 0 110) same)

-- where the text says that nothing was found, there is no fault, no unread key and no refused entry
pub clean_only : (fault : Option ConfigError) (keys : List PlacedKey) (refused : Option DescribeError) → IfSome refused IsEntryFault → findings_text fault keys refused ≡ clean_text → (fault ≡ None) × (length keys ≡ 0) × (refused ≡ None)
clean_only None [] None q h = (refl, refl, refl)
clean_only (Some e) keys refused q h = absurd (begins (finding_lines (Some e) keys refused) (λ (b : 99 ≡ 110). absurd (omega (arith, b))) h)
clean_only None (k ∷ keys) refused q h = absurd (begins (finding_lines None (k ∷ keys) refused) (λ (b : 117 ≡ 110). absurd (omega (arith, b))) h)
clean_only None [] (Some (Parameter n w)) q h = absurd (begins (finding_lines None [] (Some (Parameter n w))) (λ (b : 112 ≡ 110). absurd (omega (arith, b))) h)
clean_only None [] (Some (Measurement n w)) q h = absurd (begins (finding_lines None [] (Some (Measurement n w))) (λ (b : 109 ≡ 110). absurd (omega (arith, b))) h)
clean_only None [] (Some Host) q h = absurd q
clean_only None [] (Some (Program f)) q h = absurd q

-- the lines of a file that is no document are other ones
no_utf8_is_no_clean_text : no_utf8_text ≡ clean_text → ⊥
no_utf8_is_no_clean_text h = let bad : 99 ≡ 110 = ap (λ xs. get_or xs 0 0) h in absurd (omega (arith, bad))

some_fault : Some Text ≡ None → ⊥
some_fault h = absurd (cc)

-- the line of a file that is no document is not the text that says that nothing was found
pub syntax_line_is_no_clean_text : (text : List ℕ) → IsSyntaxLine text → text ≡ clean_text → ⊥
syntax_line_is_no_clean_text text p h =
    let bad : 99 ≡ 110 = ap (λ xs. get_or xs 0 0) (sym p.line ∙ h) in absurd (omega (arith, bad))

clean_told : (fault : Option ConfigError) (keys : List PlacedKey) (refused : Option DescribeError) → fault ≡ None → length keys ≡ 0 → refused ≡ None → findings_text fault keys refused ≡ clean_text
clean_told fault [] refused e n f = rw (e, f) refl
clean_told fault (k ∷ keys) refused e n f = absurd (omega (arith, n))

entry_in : (P : DescribeError → Type 0) (r : Option DescribeError) → IfSome r (λ e. IsEntryFault e × P e) → IfSome r IsEntryFault
entry_in P None h = tt
entry_in P (Some e) h = h.0

-- a check of a document
pub checked_is_found : (files : List File) (file : List ℕ) (f : Findings) (text : List ℕ) → IsChecked files file f text → IsFound files file f text
checked_is_found files file f text p = record {
  found = inr p;
  clean = (
    λ h. p.told ∙ clean_told f.fault (unread_keys (table p.members)) f.refused h.0 (sym p.unread ∙ h.1) h.2,
    λ h. let told = clean_only f.fault (unread_keys (table p.members)) f.refused (entry_in _ f.refused p.refused) (sym p.told ∙ h) in (told.0, p.unread ∙ told.1, told.2),
  );
}

-- and of a file that is none
pub unreadable_is_found : (files : List File) (file : List ℕ) (f : Findings) (text : List ℕ) → IsUnreadable file f text → IsFound files file f text
unreadable_is_found files file f text p = record {
  found = inl p;
  clean = (
    λ h. absurd (some_fault (sym (ap (λ x. x.fault) p.found) ∙ h.0)),
    λ h. absurd (⊎_elim (λ u. no_utf8_is_no_clean_text (sym u.1 ∙ h)) (λ s. syntax_line_is_no_clean_text text s.1 h) p.cause),
  );
}
