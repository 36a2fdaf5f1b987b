mod Numbered
mod OneHierarchy
mod OneAnswer
mod Closing
