mod Walks
mod TallyLemmas
