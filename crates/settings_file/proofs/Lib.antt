mod ItemLemmas
mod LimitLemmas
mod TomlFault
