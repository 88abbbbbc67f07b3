use Rattle.std.proofs.Common.{◌≡◌, List, sym, ap, ◌∙◌, Some, None}
use Rattle.std.proofs.lemmas.Option.{slice_get_past}
use Rattle.std.specs.List.{slice_get}
use Rattle.xcp_locked.specs.Receipts.{ReceiptsValue}
use Rattle.xcp_locked.specs.declared.receipts.Place.{Place}
use Rattle.xcp_locked.proofs.PlacedExchangeLemmas.{get_there, no_exchange, no_place, placed_at}
use Rattle.xcp_locked.proofs.receipts.Receipts.get.Goals as goal

pub returns-in_err-place : goal.returns-in_err-place
returns-in_err-place c =
    let past = (c.in_err-place.ensures {u = tt}).lookup in
    let none = ap (λ (l : List Place). slice_get l c.args.index) (sym c.deref.ensures.value) ∙ slice_get_past c.deref.result.now c.args.index past.3 in
    c.from_residual.ensures
    ∙ (sym (no_place c.self.inside.places.items c.self.inside.exchanges.exchanges c.args.index none)
    ∙ ap (λ (r : ReceiptsValue). slice_get r.list c.args.index) c.self.view_is)

pub returns-in_err-exchange : goal.returns-in_err-exchange
returns-in_err-exchange c =
    let none : slice_get c.self.inside.exchanges.exchanges c.args.index ≡ None = sym c.get-2.ensures ∙ c.in_err-exchange.was {u = tt} in
    c.from_residual-in_err-exchange.ensures
    ∙ (sym (no_exchange c.self.inside.places.items c.self.inside.exchanges.exchanges c.args.index none)
    ∙ ap (λ (r : ReceiptsValue). slice_get r.list c.args.index) c.self.view_is)

pub returns : goal.returns
returns c =
    let there = (c.in_ok-place.ensures {u = tt}).lookup in
    let place =
    ap (λ (l : List Place). slice_get l c.args.index) (sym c.deref.ensures.value)
    ∙ get_there c.deref.result.now c.args.index c.in_ok-place.field-0.now there.3.0 there.1 in
    let exchange : slice_get c.self.inside.exchanges.exchanges c.args.index ≡ Some c.in_ok-exchange.exchange = sym c.get-2.ensures ∙ c.in_ok-exchange.was {u = tt} in
    sym (placed_at c.self.inside.places.items c.self.inside.exchanges.exchanges c.args.index _ _ place exchange)
    ∙ ap (λ (r : ReceiptsValue). slice_get r.list c.args.index) c.self.view_is
