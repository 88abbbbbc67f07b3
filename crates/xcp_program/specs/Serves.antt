-- How a server is asked to serve that ends with its tools and tasks.
use Rattle.std.specs.Prelude.{is_some, Option, Some, None}
use Rattle.xcp_program.specs.declared.purpose.Options.{Options}
use Rattle.xcp_program.specs.declared.purpose.Options.TheVariants.{Serve}
use Rattle.xcp_program.specs.declared.serving.Serving.{Serving}

-- of the words that ask for such a server; each store ends its chapter where stored pages have a file
abbrev pub serving_of : Options → Option Serving
serving_of (Serve config host p t k n m ms journal flash pace) =
    Some (record { tools = t; tasks = k; cycles = n; chapter = m; period = ms; pace = pace; each_store = is_some flash })
serving_of _ = None
