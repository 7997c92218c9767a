pub mod PagesLemmas
pub mod ChunksLemmas
