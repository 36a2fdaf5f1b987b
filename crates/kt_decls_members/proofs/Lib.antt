pub mod TakenOn
mod FineMembers
mod MembersJudged
