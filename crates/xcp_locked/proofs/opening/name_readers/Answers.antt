use Rattle.std.proofs.Common.{arith, rules, subst, ◌≡◌, [], length}
use Rattle.std.specs.List.{AllByRecursion}
use Rattle.xcp_bank.specs.BankId.{no_bank}
use Rattle.xcp_bank.specs.BankEnds.{new_reader}
use Rattle.xcp_memory.specs.EcuImage.{image_size}
use Rattle.xcp_locked.specs.private.OfferedImages.{IsOwnBank}
use Rattle.xcp_locked.proofs.HandOverLemmas.{all_left, same_map}
use Rattle.xcp_locked.proofs.opening.name_readers.Goals as goal

pub map-requires : goal.map-requires
map-requires g c = (omega arith, (omega arith, (omega arith, record { at = λ xs t q x u y f s. (subst (AllByRecursion (λ r. IsOwnBank (image_size g.N.Name.layout) g.N.Name.bank r.bank)) s (all_left (λ r. IsOwnBank (image_size g.N.Name.layout) g.N.Name.bank r.bank) c.args.readers xs t c.requires y)).0 })))

pub returns : goal.returns
returns g c =
    let six : length c.args.readers ≡ 6 = search rules in
    same_map (new_reader no_bank [] 0) c.args.readers c.map.result 6 c.map.ensures.items six (λ p x y q k. search rules)
