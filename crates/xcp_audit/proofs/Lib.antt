mod HeadLemmas
mod NameLemmas
mod NamingLemmas
mod PrintedAuditLemmas
