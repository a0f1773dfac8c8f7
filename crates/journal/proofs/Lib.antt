mod Untaken
mod Runs
