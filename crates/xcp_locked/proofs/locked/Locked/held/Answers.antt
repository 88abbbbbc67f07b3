use Rattle.std.proofs.Common.{◌∙◌, ◌-◌, ℕ, List, [], ap, length, slice_index_or, subst, sym}
use Rattle.std.specs.Arc.{arc_value}
use Rattle.xcp_locked.specs.Journal.{exchanges}
use Rattle.xcp_locked.specs.LockedSlave.{LockedValue}
use Rattle.xcp_locked.specs.PublishingCalls.{AreAllImages}
use Rattle.xcp_locked.proofs.locked.Locked.held.Goals as goal

pub invariant_of-self : goal.invariant_of-self
invariant_of-self g c =
    let k = c.self.invariant.4 in (
      c.self.invariant.0,
      c.self.invariant.1,
      c.self.invariant.2,
      c.self.invariant.3,
      record {
        list = k.list;
        published = k.published;
        front = k.front;
        fronts = k.fronts;
        images = c.held.ensures.same_publications ∙ k.images;
        places = k.places;
        few = k.few;
        last = k.last;
        newest = ap (λ (images : List (List ℕ)). slice_index_or images (length images - 1) []) c.held.ensures.same_publications ∙ k.newest;
        named = c.held.ensures.same_bank ∙ k.named;
        sized = k.sized;
      },
      c.self.invariant.5,
      c.self.invariant.6,
      c.self.invariant.7,
      c.self.invariant.8,
      subst (λ images. AreAllImages g.N.Name.layout c.self.inside.before (arc_value c.self.inside.base) (exchanges c.self.inside.journal.entries) images) (sym c.held.ensures.same_publications) c.self.invariant.9,
    )

pub returns-clause-same : goal.returns-clause-same
returns-clause-same g c = (
  ap (λ (l : LockedValue). l.slave) c.self.view_is,
  ap (λ (l : LockedValue). l.journal) c.self.view_is,
  c.held.ensures.same_publications ∙ ap (λ (l : LockedValue). l.writer.publications) c.self.view_is,
)

pub returns-clause-does : goal.returns-clause-does
returns-clause-does g c = rw (ap (λ (l : LockedValue). l.writer) c.self.view_is) at c.held.ensures.does
