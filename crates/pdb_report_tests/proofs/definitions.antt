mod FreeStreams
mod RowFacts
