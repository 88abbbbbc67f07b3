use Rattle.std.proofs.Common.{◌≡◌, ◌≤◌, ◌+◌, ◌++◌, take}
use Rattle.std.specs.Prelude.{vec_capacity, vec_len}
use Rattle.std.specs.List.{flat_map}
use Rattle.xcp_flash.specs.FlashFile.{page_in}
use Rattle.xcp_flash.proofs.SizeLemmas.{sizes}
use Rattle.xcp_flash.proofs.references.append_each.Given as goal

-- the pages so far stand behind the bytes
abbrev pub invariant-loop-page : goal.invariant-loop-page
invariant-loop-page l = record {
  bytes : l.out.items ≡ l.initial.out.items ++ flat_map page_in (take l.page-index l.pages);
  size : vec_len l.out ≡ vec_len l.initial.out + sizes (take l.page-index l.pages);
  capacity : vec_capacity l.initial.out ≤ vec_capacity l.out;
}
