use Rattle.xcp_laws.proofs.TransferRanges.{set-mta, upload, upload-text, upload-nowhere, short-upload, build-checksum, units, build-no-checksum, modify-bits, modify-nothing}
use Rattle.xcp_laws.proofs.ranges.transfers_are_accepted_in_range.Goals as goal

pub returns-clause-set_mta : goal.returns-clause-set_mta
returns-clause-set_mta c = set-mta

pub returns-clause-upload : goal.returns-clause-upload
returns-clause-upload c = upload

pub returns-clause-upload_text : goal.returns-clause-upload_text
returns-clause-upload_text c = upload-text

pub returns-clause-upload_nowhere : goal.returns-clause-upload_nowhere
returns-clause-upload_nowhere c = upload-nowhere

pub returns-clause-short_upload : goal.returns-clause-short_upload
returns-clause-short_upload c = short-upload

pub returns-clause-build_checksum : goal.returns-clause-build_checksum
returns-clause-build_checksum c = build-checksum

pub returns-clause-units : goal.returns-clause-units
returns-clause-units c = units

pub returns-clause-build_no_checksum : goal.returns-clause-build_no_checksum
returns-clause-build_no_checksum c = build-no-checksum

pub returns-clause-modify_bits : goal.returns-clause-modify_bits
returns-clause-modify_bits c = modify-bits

pub returns-clause-modify_nothing : goal.returns-clause-modify_nothing
returns-clause-modify_nothing c = modify-nothing
