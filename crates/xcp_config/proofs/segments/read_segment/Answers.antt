use Rattle.std.proofs.Common.{◌≡◌, ℕ, ◌+◌, None, get_or, List, ◌∙◌, ap, length, codes, inr, rules, w64}
use Rattle.toml.specs.Data.{get}
use Rattle.toml.specs.View.{view}
use Rattle.xcp_memory.specs.declared.Class.{Class}
use Rattle.xcp_memory.specs.declared.Key.TheVariants as key
use Rattle.xcp_config.specs.Check.{Check}
use mir.Val.{SFits}
use Rattle.std.proofs.lemmas.Int.{to_z-of_z}
use Rattle.xcp_memory.specs.Limits.{address_limit, pages_limit}
use Rattle.xcp_config.specs.TableLayout.{Filed, address_of, size_of, pages_of}
use Rattle.xcp_config.specs.TableChecks.{integer_checks, bytes_checks, size_checks, segment_checks}
use Rattle.std.proofs.lemmas.Result.{err_from_is_err_and}
use Rattle.xcp_packet.proofs.RowTestLemmas.{behind_3, holding_1_of_4, holding_2_of_4, holding_3_of_4}
use Rattle.xcp_config.proofs.CheckLemmas.{or_so}
use Rattle.xcp_config.proofs.segments.read_segment.Goals as goal

abbrev address : ℕ → ℕ → Filed → List Check
address i n s = integer_checks (key.Address i) (address_limit i) (get (codes "address") s.1)

abbrev bytes : ℕ → ℕ → Filed → List Check
bytes i n s = bytes_checks i s

abbrev size : Class → ℕ → ℕ → Filed → List Check
size class i n s = size_checks class i (n + size_of s) (address_of s.1) (size_of s)

abbrev pages : ℕ → ℕ → Filed → List Check
pages i n s = integer_checks (key.Pages i) (pages_limit i) (pages_of s.1)

pub returns-in_err-address-clause-refused : goal.returns-in_err-address-clause-refused
unfolding segment_checks
returns-in_err-address-clause-refused c =
    let s : Filed = (get_or c.args.files.now c.args.number None, view c.args.table.now) in
    let r = c.from_residual in
    let p = err_from_is_err_and r.result r.ensures.1 in
    rw (p.1, p.2) (inr (holding_1_of_4 (address c.args.number c.args.before s) (bytes c.args.number c.args.before s) (size c.args.class c.args.number c.args.before s) (pages c.args.number c.args.before s) _ c.in_err-address.ensures.refused))

pub returns-in_err-bytes-clause-refused : goal.returns-in_err-bytes-clause-refused
unfolding segment_checks
returns-in_err-bytes-clause-refused c =
    let s : Filed = (get_or c.args.files.now c.args.number None, view c.args.table.now) in
    let r = c.from_residual-in_err-bytes in
    let p = err_from_is_err_and r.result r.ensures.1 in
    rw (p.1, p.2) (or_so c.in_err-bytes.ensures.refused (λ k. holding_2_of_4 (address c.args.number c.args.before s) (bytes c.args.number c.args.before s) (size c.args.class c.args.number c.args.before s) (pages c.args.number c.args.before s) _ c.in_ok-address.ensures.passes k))

pub returns-in_err-check_size-clause-refused : goal.returns-in_err-check_size-clause-refused
unfolding segment_checks
returns-in_err-check_size-clause-refused c =
    let s : Filed = (get_or c.args.files.now c.args.number None, view c.args.table.now) in
    let r = c.from_residual-in_err-check_size in
    let p = err_from_is_err_and r.result r.ensures.1 in
    let g : SFits w64 c.in_ok-address.address = search rules in
    let h = simp to_z-of_z at c.in_err-check_size.ensures.refused in
    let n : c.len.result ≡ length c.in_ok-bytes.bytes.items = search rules in
    let sized = n ∙ ap length c.in_ok-bytes.ensures.value in
    rw (p.1, p.2) (inr (holding_3_of_4 (address c.args.number c.args.before s) (bytes c.args.number c.args.before s) (size c.args.class c.args.number c.args.before s) (pages c.args.number c.args.before s) _ c.in_ok-address.ensures.passes c.in_ok-bytes.ensures.passes (rw (c.in_ok-address.ensures.value, sized) at h)))

pub returns-in_err-pages-clause-refused : goal.returns-in_err-pages-clause-refused
unfolding segment_checks
returns-in_err-pages-clause-refused c =
    let s : Filed = (get_or c.args.files.now c.args.number None, view c.args.table.now) in
    let r = c.from_residual-in_err-pages in
    let p = err_from_is_err_and r.result r.ensures.1 in
    let g : SFits w64 c.in_ok-address.address = search rules in
    let h = simp to_z-of_z at c.in_ok-check_size.ensures.passes in
    let n : c.len.result ≡ length c.in_ok-bytes.bytes.items = search rules in
    let sized = n ∙ ap length c.in_ok-bytes.ensures.value in
    rw (p.1, p.2) (inr (behind_3 (address c.args.number c.args.before s) (bytes c.args.number c.args.before s) (size c.args.class c.args.number c.args.before s) (pages c.args.number c.args.before s) c.in_ok-address.ensures.passes c.in_ok-bytes.ensures.passes (rw (c.in_ok-address.ensures.value, sized) at h) ∙ c.in_err-pages.ensures.refused))

pub returns-clause-passes : goal.returns-clause-passes
unfolding segment_checks
returns-clause-passes c =
    let s : Filed = (get_or c.args.files.now c.args.number None, view c.args.table.now) in
    let g : SFits w64 c.in_ok-address.address = search rules in
    let h = simp to_z-of_z at c.in_ok-check_size.ensures.passes in
    let n : c.len.result ≡ length c.in_ok-bytes.bytes.items = search rules in
    let sized = n ∙ ap length c.in_ok-bytes.ensures.value in
    behind_3 (address c.args.number c.args.before s) (bytes c.args.number c.args.before s) (size c.args.class c.args.number c.args.before s) (pages c.args.number c.args.before s) c.in_ok-address.ensures.passes c.in_ok-bytes.ensures.passes (rw (c.in_ok-address.ensures.value, sized) at h) ∙ c.in_ok-pages.ensures.passes
