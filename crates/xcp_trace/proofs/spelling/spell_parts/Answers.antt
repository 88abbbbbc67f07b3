use Rattle.std.proofs.Common.{◌≡◌, ◌≢◌, ◌≤◌, ◌<◌, ◌∙◌, ap, subst, sym, length}
use Rattle.xcp_slave.specs.AskedRequest.{request_asked}
use Rattle.xcp_trace.specs.ExchangeSpelling.{IsExchangeString, exchange_in, request_bytes, request_tag}
use Rattle.xcp_trace.proofs.SpellingLaws.{exchange_again, fits, string_is}
use Rattle.xcp_trace.proofs.spelling.spell_parts.Goals as goal

pub returns-clause-string : goal.returns-clause-string
returns-clause-string c =
    let s = string_is (request_asked c.args.request) _ _ c.args.kind c.args.count _ _ c.args.told.now c.request_parts-tag.ensures.tag c.request_parts-tag.ensures.channel c.request_parts-tag.ensures.bytes c.request_parts-tag.ensures.word c.to_le_bytes-channel.ensures in
    ap exchange_in s ∙ exchange_again (request_asked c.args.request) c.args.kind c.args.count c.args.told.now c.request_parts-tag.ensures.spelt

pub returns-clause-fits : goal.returns-clause-fits
returns-clause-fits c =
    let s = string_is (request_asked c.args.request) _ _ c.args.kind c.args.count _ _ c.args.told.now c.request_parts-tag.ensures.tag c.request_parts-tag.ensures.channel c.request_parts-tag.ensures.bytes c.request_parts-tag.ensures.word c.to_le_bytes-channel.ensures in
    let asked : length (request_bytes (request_asked c.args.request)) ≤ 255 = rw c.request_parts-tag.ensures.bytes at c.request_parts-tag.ensures.short in
    let signals : request_tag (request_asked c.args.request) ≡ 1 → length (request_bytes (request_asked c.args.request)) ≤ 64 = rw (c.request_parts-tag.ensures.bytes, c.request_parts-tag.ensures.tag) at c.request_parts-tag.ensures.signals in
    let time : 4 < request_tag (request_asked c.args.request) → request_tag (request_asked c.args.request) ≢ 6 → length (request_bytes (request_asked c.args.request)) ≡ 8 = rw (c.request_parts-tag.ensures.bytes, c.request_parts-tag.ensures.tag) at c.request_parts-tag.ensures.time in
    subst IsExchangeString (sym s) (fits (request_asked c.args.request) c.args.kind c.args.count c.args.told.now asked signals time c.requires.short c.requires.width)
