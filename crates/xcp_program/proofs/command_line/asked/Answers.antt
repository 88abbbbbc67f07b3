use Rattle.std.proofs.Common.{◌≡◌, codes, inl, inr}
use Rattle.xcp_program.proofs.CommandLineLemmas.{named_apart, no_audit, no_description, no_replay}
use Rattle.xcp_program.proofs.command_line.asked.Goals as goal

described_audit : codes "describe" ≡ codes "audit" → ⊥
described_audit e = cc

described_replay : codes "replay" ≡ codes "describe" → ⊥
described_replay e = cc

audited_replay : codes "replay" ≡ codes "audit" → ⊥
audited_replay e = cc

pub replay_asked-requires : goal.replay_asked-requires
replay_asked-requires c = elim c.requires [
  | inl run ↦ elim run [
    | inl replay ↦ replay
    | inr serve ↦ absurd (named_apart _ _ _ c.in-Some.ensures.some.name serve.config.text.name no_replay)
  ]
  | inr other ↦ elim other [
    | inl description ↦ absurd (named_apart _ _ _ c.in-Some.ensures.some.name description.config.text.name described_replay)
    | inr audit ↦ absurd (named_apart _ _ _ c.in-Some.ensures.some.name audit.config.text.name audited_replay)
  ]
]

pub description_asked-requires : goal.description_asked-requires
description_asked-requires c = elim c.requires [
  | inl run ↦ elim run [
    | inl replay ↦ absurd (c.text_in.ensures.none c.in-None.is replay.file replay.config.text)
    | inr serve ↦ absurd (named_apart _ _ _ c.in-Some-text_in.ensures.some.name serve.config.text.name no_description)
  ]
  | inr other ↦ elim other [
    | inl description ↦ description
    | inr audit ↦ absurd (named_apart _ _ _ c.in-Some-text_in.ensures.some.name audit.config.text.name described_audit)
  ]
]

pub audit_asked-requires : goal.audit_asked-requires
audit_asked-requires c = elim c.requires [
  | inl run ↦ elim run [
    | inl replay ↦ absurd (c.text_in.ensures.none c.in-None.is replay.file replay.config.text)
    | inr serve ↦ absurd (named_apart _ _ _ c.in-Some-text_in-2.ensures.some.name serve.config.text.name no_audit)
  ]
  | inr other ↦ elim other [
    | inl description ↦ absurd (c.text_in-in-None.ensures.none c.in-None-text_in.is description.file description.config.text)
    | inr audit ↦ audit
  ]
]

pub server_asked-requires : goal.server_asked-requires
server_asked-requires c = elim c.requires [
  | inl run ↦ elim run [
    | inl replay ↦ absurd (c.text_in.ensures.none c.in-None.is replay.file replay.config.text)
    | inr serve ↦ serve
  ]
  | inr other ↦ elim other [
    | inl description ↦ absurd (c.text_in-in-None.ensures.none c.in-None-text_in.is description.file description.config.text)
    | inr audit ↦ absurd (c.text_in-in-None-text_in.ensures.none c.in-None-text_in-2.is audit.file audit.config.text)
  ]
]
